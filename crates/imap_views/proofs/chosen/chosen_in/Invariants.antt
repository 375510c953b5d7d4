use Rattle.std.proofs.Common.{◌≡◌, ℕ, List, take, filter}
use Rattle.std.specs.BTreeSet.{contains_by}
use Rattle.std.specs.Cmp.Lexicographic.{slice_cmp}
use Rattle.std.specs.List.{flat_map}
use Rattle.std.specs.Ordering.{nat_cmp}
use Rattle.utf8_fields.specs.Block.{raw_of, name_of}
use Rattle.imap_views.specs.Chosen.{is_chosen}
use Rattle.imap_views.specs.private.Reading.{HoldsNames}
use Rattle.imap_views.proofs.chosen.chosen_in.Given as goal

abbrev pub invariant-loop-field : goal.invariant-loop-field
invariant-loop-field l = (asked : List (List ℕ)) → HoldsNames asked (λ q. contains_by (λ key. slice_cmp nat_cmp q key.items) l.fn.names)
    → l.made ≡ flat_map (raw_of l.fn.header.octets.now) (filter (λ field. is_chosen asked l.fn.negated (name_of l.fn.header.octets.now field)) (take l.field-index l.field-items))
