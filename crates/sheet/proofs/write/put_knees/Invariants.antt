use Rattle.std.proofs.Common.{◌≡◌, ◌≤◌, drop}
use Rattle.std.specs.Iterator.Adapters.{enumerate_source, enumerate_count, zip_first, zip_second}
use Rattle.std.specs.Slice.Iter.{iter_rest}
use Rattle.sheet.specs.Buffers.{Puts}
use Rattle.sheet.proofs.RecordBytes.{knees_bytes}
use Rattle.sheet.proofs.write.put_knees.Given as goal

-- the knees so far are written, and the others are left
abbrev pub invariant-loop-k : goal.invariant-loop-k
invariant-loop-k l =
    let pairs = enumerate_source l.k-iterator in
    let k = enumerate_count l.k-iterator in
    record {
      bytes : Puts l.initial.writer (knees_bytes l.count l.levels l.steps k 0) l.writer;
      levels : iter_rest (zip_first pairs) ≡ drop k l.levels;
      steps : iter_rest (zip_second pairs) ≡ drop k l.steps;
      within : k ≤ 6;
    }
