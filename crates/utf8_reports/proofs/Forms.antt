-- An address that isn't ASCII is read from its form alone.
use Rattle.std.proofs.Common.{◌≡◌, ℕ, Bool, true, false, List, Option, Some, None, sym, subst}
use Rattle.std.specs.Prelude.{IfSome, IfNone}
use Rattle.std.specs.Str.{IsUtf8}
use Rattle.encapsulated_fields.specs.Xtext.{ReadsAs}
use Rattle.encapsulated_fields.proofs.FormLemmas.{ReadsAs-xtext, ReadsAs-unitext}
use Rattle.encapsulated_fields.proofs.XtextLemmas.{ReadsAs-once}
use Rattle.utf8_reports.specs.Recipients.{utf8_form}

form_reads : (global : Bool) (text : List ℕ) → IsUtf8 text → ReadsAs (utf8_form global text) text
form_reads true text u = ReadsAs-unitext text u
form_reads false text u = ReadsAs-xtext text u

formed_reads : (global : Bool) (form text : List ℕ) → IsUtf8 text → form ≡ utf8_form global text → ReadsAs form text
formed_reads global form text u is = subst (λ f. ReadsAs f text) (sym is) (form_reads global text u)

pub read_found : (found : Option (List ℕ)) (form text : List ℕ) → IfSome found (ReadsAs form) → found ≡ Some text → ReadsAs form text
read_found found form text h is = subst (λ o. IfSome o (ReadsAs form)) is h

pub none_formed : (found : Option (List ℕ)) (global : Bool) (form text : List ℕ) → IfNone found ((address : List ℕ) → ¬ ReadsAs form address) → found ≡ None
    → IsUtf8 text → form ≡ utf8_form global text → ⊥
none_formed found global form text h is u formed =
    let none : (address : List ℕ) → ¬ ReadsAs form address = subst (λ o. IfNone o ((address : List ℕ) → ¬ ReadsAs form address)) is h in
    none text (formed_reads global form text u formed)

pub formed_same : (global : Bool) (form text other : List ℕ) → ReadsAs form text → IsUtf8 other → form ≡ utf8_form global other → text ≡ other
formed_same global form text other reads u formed = ReadsAs-once form text other reads (formed_reads global form other u formed)
