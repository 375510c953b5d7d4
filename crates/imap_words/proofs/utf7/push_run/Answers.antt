use Rattle.std.proofs.Common.{◌≡◌, sym, ◌∙◌, subst, Ok, Result}
use Rattle.base64.specs.GeneralPurpose.{IsDecodeFailure}
use Rattle.imap_words.specs.Utf7.{utf16_octets}
use Rattle.imap_words.proofs.Utf7Runs.{IsRunEngine, encode_run, strict_run}
use Rattle.imap_words.proofs.Utf16.{utf16_bytes}
use Rattle.imap_words.proofs.utf7.push_run.Goals as goal

ok_same : {T E : Type 0} {r : Result T E} {a b : T} → r ≡ Ok a → r ≡ Ok b → a ≡ b
ok_same x y = cc (sym x ∙ y)

pub returns-in-Ok : goal.returns-in-Ok
returns-in-Ok c cs s e =
    let is : IsRunEngine c.new-engine.result = record { symbols = c.new-engine.ensures.symbols; padding = c.new-engine.ensures.padding; config = c.new-engine.ensures.config } in
    let back = (c.decode.ensures.strict (strict_run c.new-engine.result is) (utf16_octets cs) (utf16_bytes cs s)).1 (e ∙ sym (encode_run c.new-engine.result (utf16_octets cs) is)) in
    c.push_chars.ensures cs s (c.deref.ensures.value ∙ ok_same c.in-Ok.ensures.ok back)

pub returns-in-Err-DecodeError : goal.returns-in-Err-DecodeError
returns-in-Err-DecodeError c cs s e =
    let is : IsRunEngine c.new-engine.result = record { symbols = c.new-engine.ensures.symbols; padding = c.new-engine.ensures.padding; config = c.new-engine.ensures.config } in
    let back = (c.decode.ensures.strict (strict_run c.new-engine.result is) (utf16_octets cs) (utf16_bytes cs s)).1 (e ∙ sym (encode_run c.new-engine.result (utf16_octets cs) is)) in
    let failed = subst (IsDecodeFailure c.new-engine.result c.args.symbols.now) c.in-Err-DecodeError.field-0-is c.in-Err-DecodeError.ensures.err in
    absurd (cc (sym back ∙ failed))
