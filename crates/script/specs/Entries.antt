-- What an entry of a journal says, and the calls that are made of entries.
use Rattle.std.specs.Prelude.{ℕ, List, map, is_none, ℤ, None, vec_items, Option}
use Rattle.std.specs.List.{filter}
use Rattle.curve.specs.WrittenCurves.{written_fault}
use Rattle.curve.specs.declared.fault.CurveFault.{CurveFault}
use Rattle.curve.specs.declared.written.Written.{Written}
use Rattle.slots.specs.declared.slot.Slot.{Slot}
use Rattle.replay.specs.declared.call.Buffers.{Buffers}
use Rattle.replay.specs.declared.call.Call.{Call}
use Rattle.replay.specs.declared.call.Call.TheVariants as calls
use Rattle.script.specs.declared.entry.Entry.{Entry}
use Rattle.script.specs.declared.entry.Entry.TheVariants as entries

-- a call in plain values, wherever its lists lie
pub data PlainCall : Type 0 where
  add : Slot Written → PlainCall
  replace : ℕ → Slot Written → PlainCall
  drop : PlainCall
  sheet : List ℕ → PlainCall
  price : List ℕ → PlainCall
  plan : Buffers → PlainCall
  check : List ℕ → List ℤ → PlainCall

-- what an entry says
abbrev pub entry_call : Entry → PlainCall
entry_call (entries.Add s) = add s
entry_call (entries.Replace i s) = replace i s
entry_call entries.Drop = drop
entry_call (entries.Sheet bytes) = sheet (vec_items bytes)
entry_call (entries.Price levels) = price (vec_items levels)
entry_call (entries.Plan lengths) = plan lengths
entry_call (entries.Check levels leans) = check (vec_items levels) (vec_items leans)

-- what a call says
abbrev pub plain_call : Call Written → PlainCall
plain_call (calls.Add s) = add s
plain_call (calls.Replace i s) = replace i s
plain_call calls.Drop = drop
plain_call (calls.Sheet bytes) = sheet bytes.now
plain_call (calls.Price levels) = price levels.now
plain_call (calls.Plan lengths) = plan lengths
plain_call (calls.Check levels leans) = check levels.now leans.now

-- why the curve of an entry cannot be made
abbrev pub entry_fault : Entry → Option CurveFault
entry_fault (entries.Add s) = written_fault s.curve
entry_fault (entries.Replace i s) = written_fault s.curve
entry_fault entries.Drop = None
entry_fault (entries.Sheet bytes) = None
entry_fault (entries.Price levels) = None
entry_fault (entries.Plan lengths) = None
entry_fault (entries.Check levels leans) = None

-- what the entries say whose curves can be made, in their order
abbrev pub makeable : List Entry → List PlainCall
makeable es = map entry_call (filter (λ e. is_none (entry_fault e)) es)
