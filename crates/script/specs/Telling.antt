-- The lines of a report, and of a text that is no journal.
use Rattle.std.specs.Prelude.{ℕ, List, [], ◌∷◌, ◌++◌, Some, None, codes, decimal, Option}
use Rattle.curve.specs.Answers.{refused_text}
use Rattle.curve.specs.Faults.{fault_number}
use Rattle.curve.specs.declared.fault.CurveFault.{CurveFault}
use Rattle.curve.specs.declared.written.Written.{Written}
use Rattle.replay.specs.Telling.{answer_text}
use Rattle.replay.specs.declared.call.Moment.{Moment}
use Rattle.script.specs.Entries.{entry_fault}
use Rattle.script.specs.declared.entry.Entry.{Entry}
use Rattle.script.specs.declared.fault.ScriptFault.{ScriptFault}
use Rattle.script.specs.declared.fault.ScriptFault.TheVariants.{NotACall, NoMemory}

-- the line of an entry: that of its curve's fault, else that of the next moment
abbrev pub entry_text : Option CurveFault → List (Moment Written) → List ℕ
entry_text (Some fault) moments = refused_text (fault_number fault) None ++ (10 ∷ [])
entry_text None [] = []
entry_text None (m ∷ moments) = answer_text m.answer ++ (10 ∷ [])

-- the moments that are left for later entries
abbrev pub moments_after : Option CurveFault → List (Moment Written) → List (Moment Written)
moments_after (Some fault) moments = moments
moments_after None [] = []
moments_after None (m ∷ moments) = moments

-- a line for each entry
abbrev pub report_text : List Entry → List (Moment Written) → List ℕ
report_text [] moments = []
report_text (e ∷ es) moments = entry_text (entry_fault e) moments ++ report_text es (moments_after (entry_fault e) moments)

-- the line that tells why a text is no journal
abbrev pub fault_text : ScriptFault → List ℕ
fault_text (NotACall k) = codes "line " ++ (decimal k ++ codes ": not a call")
fault_text NoMemory = codes "no memory"
