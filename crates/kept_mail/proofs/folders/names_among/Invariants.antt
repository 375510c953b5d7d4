use Rattle.std.proofs.Common.{◌≡◌, take}
use Rattle.kept_mail.specs.Kept.{names_among}
use Rattle.kept_mail.proofs.folders.names_among.Given as goal

abbrev pub invariant-loop-folder : goal.invariant-loop-folder
invariant-loop-folder l = l.names.items ≡ names_among l.account (take l.folder-index l.folders)
