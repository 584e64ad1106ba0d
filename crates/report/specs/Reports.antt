-- What is said of a sheet.
use Rattle.std.specs.Prelude.{ℕ, ◌+◌, Bool, true, false, List, [], ◌∷◌, ◌++◌, length, Some, None, Ok, Err, codes, decimal, string_bytes, Option, Result, String}
use Rattle.std.specs.Fmt.{signed_decimal}
use Rattle.curve.specs.Meaning.{cost}
use Rattle.curve.specs.WrittenCurves.{written_ground, written_steps}
use Rattle.curve.specs.declared.written.Written.{Written}
use Rattle.optimum.specs.Coldest.{plan}
use Rattle.optimum.specs.Plans.{Terms, toll, price}
use Rattle.slots.specs.SlotTerms.{day_terms}
use Rattle.slots.specs.declared.slot.Slot.{Slot}
use Rattle.sheet.specs.Faults.{fault_text}
use Rattle.sheet.specs.declared.fault.SheetFault.{SheetFault}

-- the line of a slot: its number, its level, what its curve costs there, and the toll for coming there
abbrev pub slot_line : ℕ → Terms → Option ℕ → ℕ → List ℕ
slot_line i t before x =
    decimal i ++ (codes " " ++ (decimal x ++ (codes " " ++ (signed_decimal (cost t.ground t.steps x) ++ (codes " " ++ (signed_decimal (toll t before x) ++ codes "\n"))))))

-- a line for each slot from number i on, coming from the level before, if there is one
abbrev pub slot_lines : ℕ → List Terms → Option ℕ → List ℕ → List ℕ
slot_lines i [] before xs = []
slot_lines i (t ∷ ts) before [] = []
slot_lines i (t ∷ ts) before (x ∷ xs) = slot_line i t before x ++ slot_lines (i + 1) ts (Some x) xs

-- the first line: how many slots, and what their plan costs
abbrev pub head_line : List Terms → List ℕ
head_line ts = codes "slots " ++ (decimal (length ts) ++ (codes " cost " ++ (signed_decimal (price None ts (plan None ts)) ++ codes "\n")))

-- the plan of a day
abbrev pub plan_text : List Terms → List ℕ
plan_text ts = head_line ts ++ slot_lines 0 ts None (plan None ts)

-- what is said of a sheet that was read or refused
abbrev pub sheet_text : Result (List (Slot Written)) SheetFault → List ℕ
sheet_text (Ok slots) = plan_text (day_terms written_ground written_steps slots)
sheet_text (Err fault) = fault_text fault ++ codes "\n"

-- the bytes of what is said, of a plan or of a refusal
abbrev pub said : {Z : Type 0} → Result (String Z) (String Z) → List ℕ
said (Ok text) = string_bytes text
said (Err text) = string_bytes text

-- whether it was refused
abbrev pub is_refused : Result (List (Slot Written)) SheetFault → Bool
is_refused (Ok slots) = false
is_refused (Err fault) = true
