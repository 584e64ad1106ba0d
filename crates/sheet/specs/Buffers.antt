-- Bytes that are written over others: what the private functions of writing say. No public contract cites it.
use Rattle.std.specs.Prelude.{◌≡◌, ℕ, ◌+◌, ◌≤◌, List, ◌++◌, length, take, drop}
use Rattle.sheet.specs.declared.writer.Writer.{Writer}

-- bytes over those of a buffer from a place on; all others are as they were
abbrev pub over : List ℕ → ℕ → List ℕ → List ℕ
over bytes place buffer = take place buffer ++ (bytes ++ drop (place + length bytes) buffer)

-- a writer puts bytes, for which its buffer has room, and its place is then behind them
pub record Puts (before : Writer) (bytes : List ℕ) (after : Writer) : Type 0 where
  pub fits : before.place + length bytes ≤ length before.out.now
  pub written : after.out.now ≡ over bytes before.place before.out.now
  pub size : length after.out.now ≡ length before.out.now
  pub place : after.place ≡ before.place + length bytes
  pub lender : after.out.ghost_name ≡ before.out.ghost_name
