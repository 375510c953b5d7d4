use Rattle.std.proofs.Common.{◌≡◌, ◌≤◌, ap, take, arith, ◌∙◌}
use Rattle.surrogate_rope.specs.Ropes.{octets_of, size_of}
use Rattle.surrogate_rope.proofs.RopeSizes.{rope_size}
use Rattle.utf8_reports.proofs.Fronts.{front_read}
use Rattle.utf8_reports.proofs.shown.first_octets.Goals as goal

pub returns : goal.returns
returns c =
    let len : c.resize.new.self.len ≡ c.args.len = c.in_ok-resize.ensures.len in
    let whole = rope_size c.args.msg.now c.args.rope.now c.requires.rope in
    let fits : c.resize.new.self.len ≤ size_of c.args.rope.now.pieces = omega (arith, len, whole, c.requires.fits) in
    front_read (octets_of c.args.msg.now c.args.rope.now) c.resize.new.self.items c.deref_mut.result.now c.read_at.new.into c.from_vec.result c.resize.new.self.len c.read_at.result
    (size_of c.args.rope.now.pieces) fits whole c.deref_mut.ensures.len c.read_at.ensures.count c.read_at.ensures.octets c.from_vec.ensures
    ∙ ap (λ k. take k (octets_of c.args.msg.now c.args.rope.now)) len
