-- The raw fields of a header are one list at most, and whatever the name, the first field of that name has a value.
use Rattle.std.proofs.Common.{◌≡◌, ℕ, List, map, Option, refl, sym, ap, ◌∙◌, subst}
use Rattle.mail_wire.specs.Lines.{lines_of}
use Rattle.utf8_fields.specs.declared.block.Field.{Field}
use Rattle.utf8_fields.specs.Block.{HasBlock, raw_of}
use Rattle.utf8_fields.proofs.OneBlock.{same_block}
use Rattle.mime_tree.specs.Openings.{IsFirstValue}
use Rattle.surrogate_rope.proofs.AllSurrogates.{first_some}
use Rattle.imap_views.specs.Fields.{HasSomeBlock, HasRaws}
use Rattle.imap_views.proofs.HeaderLemmas.{block_within}

-- the fields of a block are one list
pub fields_once : (header : List ℕ) (fields others : List Field) (end other : ℕ) → HasBlock header fields end → HasBlock header others other → fields ≡ others
fields_once header fields others end other p q = (same_block (lines_of header) 0 fields others end other p q).0

pub raws_once : (header : List ℕ) (raws others : List (List ℕ)) → HasRaws header raws → HasRaws header others → raws ≡ others
raws_once header raws others p q = p.raws_are ∙ ap (map (raw_of header)) (fields_once header p.fields q.fields p.end q.end p.has_block q.has_block) ∙ sym q.raws_are

-- a header with a block has raw fields
pub some_raws : (header : List ℕ) → HasSomeBlock header → (raws : List (List ℕ)) × HasRaws header raws
some_raws header some = (map (raw_of header) some.fields, record { fields = some.fields; end = some.end; has_block = some.has_block; raws_are = refl })

-- whatever the name, its first field has a value or there is none
abbrev pub HaveFirsts : List (List ℕ) → Type 0
HaveFirsts raws = (name : List ℕ) → (value : Option (List ℕ)) × IsFirstValue name raws value

pub have_firsts : (header : List ℕ) (raws : List (List ℕ)) → HasRaws header raws → HaveFirsts raws
have_firsts header raws has = subst HaveFirsts (sym has.raws_are) (λ name. first_some header name has.fields (block_within header has.fields has.end has.has_block))
