use Rattle.imap_views.proofs.headers.read_header.Goals as goal

pub unreachable-requires : goal.unreachable-requires
unreachable-requires c =
    let memory = c.in-Err-NotField.ensures.exact c.requires.fields c.requires.end c.requires.has_block in
    let is = c.in-Err-NotField.field-0-is in
    cc

pub unreachable-requires-in-Err-NotUtf8 : goal.unreachable-requires-in-Err-NotUtf8
unreachable-requires-in-Err-NotUtf8 c =
    let memory = c.in-Err-NotUtf8.ensures.exact c.requires.fields c.requires.end c.requires.has_block in
    let is = c.in-Err-NotUtf8.field-0-is in
    cc
