-- Which reports on delivery a sender asks for (RFC 3461): RET and ENVID of MAIL, NOTIFY and ORCPT of RCPT.
pub mod Xtexts
pub mod Parameters
pub mod MailTerms
pub mod RecipientTerms
pub mod KeptTerms
pub mod TermTexts
pub mod Outcomes
