use Rattle.std.proofs.Common.{codes, true, false}
use Rattle.std.specs.Option.{option_copied}
use Rattle.std.proofs.lemmas.Result.{on_ok_weaker}
use Rattle.session_core.specs.Desks.{stored_octets}
use Rattle.imap_session.proofs.RangeLemmas.{envelope_given, size_given, structure_given}
use Rattle.imap_session.proofs.fetching.push_told.Goals as goal

pub returns-in-Size-default : goal.returns-in-Size-default
returns-in-Size-default g c = λ oracles are store alike.
    let msg = stored_octets c.args.outside.now.desk.store c.args.one.now.id in
    let has_shown = rw c.in-Size-default.is-0 at c.requires.shown in
    let size = rw c.octets.ensures at c.shown_size-size.ensures in
    rw c.in-Size-default.is-0 (on_ok_weaker c.push_number-in-Size-default.result (λ put. size_given oracles are g.V.View.mode store c.args.one.now msg (option_copied c.args.shown) c.shown_size-size.result
    c.args.pending.now c.push_number-in-Size-default.new.made (alike.octets c.args.one.now.id) has_shown size put) c.push_number-in-Size-default.ensures)

pub returns-in-Envelope-Some : goal.returns-in-Envelope-Some
returns-in-Envelope-Some g c = λ oracles are store alike.
    let msg = stored_octets c.args.outside.now.desk.store c.args.one.now.id in
    let is_shown = rw c.in-Envelope-Some.is-1 at c.requires.shown in
    let put = rw c.octets-in-Envelope-Some.ensures at c.put_envelope.ensures in
    rw c.in-Envelope-Some.is-0 (on_ok_weaker c.put_envelope.result (λ adds. envelope_given oracles are g.V.View.mode store c.args.one.now msg c.in-Envelope-Some.shown.now
    c.args.pending.now c.put_envelope.new.pending (alike.octets c.args.one.now.id) is_shown adds) put)

pub returns-in-Body-Some : goal.returns-in-Body-Some
returns-in-Body-Some g c = λ oracles are store alike.
    let msg = stored_octets c.args.outside.now.desk.store c.args.one.now.id in
    let is_shown = rw c.in-Body-Some.is-1 at c.requires.shown in
    let put = rw c.octets-in-Body-Some.ensures at c.put_structure.ensures in
    rw c.in-Body-Some.is-0 (on_ok_weaker c.put_structure.result (λ adds. structure_given oracles are g.V.View.mode store c.args.one.now msg c.in-Body-Some.shown.now (codes "BODY ") false
    c.args.pending.now c.put_structure.new.pending (alike.octets c.args.one.now.id) is_shown adds) put)

pub returns-in-BodyStructure-Some : goal.returns-in-BodyStructure-Some
returns-in-BodyStructure-Some g c = λ oracles are store alike.
    let msg = stored_octets c.args.outside.now.desk.store c.args.one.now.id in
    let is_shown = rw c.in-BodyStructure-Some.is-1 at c.requires.shown in
    let put = rw c.octets-in-BodyStructure-Some.ensures at c.put_structure-in-BodyStructure-Some.ensures in
    rw c.in-BodyStructure-Some.is-0 (on_ok_weaker c.put_structure-in-BodyStructure-Some.result (λ adds. structure_given oracles are g.V.View.mode store c.args.one.now msg c.in-BodyStructure-Some.shown.now (codes "BODYSTRUCTURE ") true
    c.args.pending.now c.put_structure-in-BodyStructure-Some.new.pending (alike.octets c.args.one.now.id) is_shown adds) put)
