use Rattle.std.proofs.Common.{arith}
use Rattle.text_input.proofs.Room.{room}
use Rattle.text_input.proofs.TextInput.run_places.Goals as goal

-- what a run appends is at most 3 × n + 1 characters
pub go-requires-clause-chunk_len_bound : goal.go-requires-clause-chunk_len_bound
go-requires-clause-chunk_len_bound c =
    let a = c.args in
    omega (arith, c.requires.chunk_len_bound, room a.page.now a.options a.self a.chunk.now)
