-- Decoding one record, by its kind.
use Rattle.std.proofs.Common.{◌≡◌, ℕ, ◌<◌, ◌≤◌, List, length, take, Some, None, Ok, Err, Option, ◌∙◌, le-leb}
use borrow.Author.Tests.{lt-leb}
use Rattle.std.specs.Option.{ok_or}
use Rattle.curve.specs.declared.written.Written.{Written}
use Rattle.slots.specs.declared.slot.Slot.{Slot}
use Rattle.sheet.specs.Kinds.{kind_of, body_length}
use Rattle.sheet.specs.declared.kinds.Kind.{Kind}
use Rattle.sheet.specs.Records.{decode_body, decode_record}
use Rattle.sheet.specs.SlotFaults.{slot_fault, unless_fault}
use Rattle.sheet.specs.SlotFaultsLemmas.{fault_of_refusal, no_fault}
use Rattle.sheet.specs.SlotFields.{slot_in}
use Rattle.sheet.specs.declared.fault.RecordFault.{RecordFault}
use Rattle.sheet.specs.declared.fault.RecordFault.TheVariants.{UnknownKind, CutShort}

-- a byte is of a kind where trying it gives that kind
pub known_by : (tried : Option Kind) (kind : Kind) → Ok kind ≡ ok_or tried UnknownKind → tried ≡ Some kind
known_by None kind e = cc
known_by (Some k) kind e = cc

unknown_by : (tried : Option Kind) (rest : List ℕ) (fault : RecordFault) → Err fault ≡ ok_or tried UnknownKind → decode_body tried rest ≡ Err fault
unknown_by None rest fault e = cc
unknown_by (Some kind) rest fault e = cc

-- any other byte is refused
pub record_unknown : (byte : ℕ) (rest : List ℕ) (fault : RecordFault) → Err fault ≡ ok_or (kind_of byte) UnknownKind → decode_record byte rest ≡ Err fault
unfolding decode_record
record_unknown byte rest fault e = unknown_by (kind_of byte) rest fault e

module _ (kind : Kind) (byte : ℕ) (rest : List ℕ) (known : kind_of byte ≡ Some kind) where
  -- with fewer bytes than its body it is cut short
  pub record_cut : length rest < body_length kind → decode_record byte rest ≡ Err CutShort
  unfolding decode_record
  record_cut short = rw (known, lt-leb (body_length kind) (length rest) short)

  -- else its slot is taken from its body, unless that is refused
  pub record_tested :
      (s : Slot Written) → body_length kind ≤ length rest → s ≡ slot_in kind (take (body_length kind) rest) →
      decode_record byte rest ≡ unless_fault (slot_fault s) (s, body_length kind)
  unfolding decode_record
  record_tested s long is = rw (known, le-leb (body_length kind) (length rest) long, is)

  pub record_refused :
      (s : Slot Written) (fault : RecordFault) → body_length kind ≤ length rest → s ≡ slot_in kind (take (body_length kind) rest) → Err fault ≡ unless_fault {X = Unit {0}} (slot_fault s) tt →
      decode_record byte rest ≡ Err fault
  record_refused s fault long is told =
      record_tested s long is ∙ rw (fault_of_refusal {X = Unit {0}} (slot_fault s) tt fault told)

  pub record_taken :
      (s : Slot Written) → body_length kind ≤ length rest → s ≡ slot_in kind (take (body_length kind) rest) → Ok tt ≡ unless_fault {X = Unit {0}} (slot_fault s) tt →
      decode_record byte rest ≡ Ok (s, body_length kind)
  record_taken s long is told =
      record_tested s long is ∙ rw (no_fault {X = Unit {0}} (slot_fault s) tt tt told)
