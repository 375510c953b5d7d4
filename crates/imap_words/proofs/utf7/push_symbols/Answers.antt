use Rattle.std.proofs.Common.{◌≡◌, sym, ◌∙◌}
use Rattle.imap_words.specs.Utf7.{modified_base64}
use Rattle.imap_words.proofs.Utf7Runs.{IsRunEngine, encode_run}
use Rattle.imap_words.proofs.utf7.push_symbols.Goals as goal

pub returns : goal.returns
returns c =
    let is : IsRunEngine c.new-engine.result = record { symbols = c.new-engine.ensures.symbols; padding = c.new-engine.ensures.padding; config = c.new-engine.ensures.config } in
    let written : c.as_bytes.result.now ≡ modified_base64 c.args.octets.now = c.as_bytes.ensures.value ∙ (c.in_ok-text.ensures.text ∙ encode_run c.new-engine.result _ is) in
    rw (sym written) c.push_slice.ensures.ok
