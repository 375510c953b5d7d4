use Rattle.utf8_reports.proofs.shown.block_end.Goals as goal

pub unreachable-requires : goal.unreachable-requires
unreachable-requires c =
    let memory = c.in-Err-NotField.ensures.exact c.requires.0 c.requires.1 c.requires.2 in
    let is = c.in-Err-NotField.field-0-is in
    cc

pub unreachable-requires-in-Err-NotUtf8 : goal.unreachable-requires-in-Err-NotUtf8
unreachable-requires-in-Err-NotUtf8 c =
    let memory = c.in-Err-NotUtf8.ensures.exact c.requires.0 c.requires.1 c.requires.2 in
    let is = c.in-Err-NotUtf8.field-0-is in
    cc
