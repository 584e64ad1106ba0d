-- What a reader of words answers.
use Rattle.std.specs.Prelude.{◌≡◌, ℕ, List, map, Some, None, Ok, Err, vec_items, Option, Result}
use Rattle.std.specs.Borrow.{Bor}
use Rattle.script.specs.Entries.{entry_call}
use Rattle.script.specs.Reading.{PlainLine, open_memory, make, Reading, journal, not_a_call}
use Rattle.script.specs.declared.entry.Script.{Script}
use Rattle.script.specs.declared.parse.Line.{Line}
use Rattle.script.specs.declared.parse.Line.TheVariants as lines
use Rattle.script.specs.declared.fault.LineFault.{LineFault}
use Rattle.script.specs.declared.fault.LineFault.TheVariants as line
use Rattle.script.specs.declared.fault.ScriptFault.{ScriptFault}
use Rattle.script.specs.declared.fault.ScriptFault.TheVariants as script

-- the bytes of texts, wherever they lie
abbrev pub texts : List (Bor (List ℕ)) → List (List ℕ)
texts ws = map (λ x. x.now) ws

-- words that are told to be no call say nothing; where there is no memory, nothing is claimed
abbrev pub Fails : {Y : Type 0} → LineFault → Option Y → Type 0
Fails line.NotACall said = said ≡ None
Fails line.NoMemory said = Unit {0}

-- the value that words say, seen in a given way, or a fault
abbrev pub Says : {X Y : Type 0} → (X → Y) → Result X LineFault → Option Y → Type 0
Says view (Ok x) said = said ≡ Some (view x)
Says view (Err fault) said = Fails fault said

abbrev pub plain_line : Line → PlainLine
plain_line (lines.Open slots) = open_memory slots
plain_line (lines.Call e) = make (entry_call e)

-- a journal as its plain values
abbrev pub script_reading : Script → Reading
script_reading s = journal s.slots (map entry_call (vec_items s.entries))

-- the journal that a text says, or its first line that is not a call; where there is no memory, nothing is claimed
abbrev pub Reads : Result Script ScriptFault → Reading → Type 0
Reads (Ok s) said = said ≡ script_reading s
Reads (Err (script.NotACall k)) said = said ≡ not_a_call k
Reads (Err script.NoMemory) said = Unit {0}
