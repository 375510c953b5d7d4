use Rattle.encoded_words.proofs.Chunks.{IsChunk-take}
use Rattle.encoded_words.proofs.written_words.split_chunk.Goals as goal

pub returns-clause-chunk : goal.returns-clause-chunk
returns-clause-chunk c =
    let cut = c.floor_char_boundary.ensures in
    rw (c.split_at.ensures.front, c.split_at.ensures.back)
    (IsChunk-take c.args.text.now c.floor_char_boundary.result c.utf8.text c.requires cut.bound cut.boundary cut.nearest)
