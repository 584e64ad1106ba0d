-- A text that is written part by part.
use Rattle.std.proofs.Common.{◌≡◌, ℕ, List, ◌++◌, sym, ap, ◌∙◌, append_assoc}
use Rattle.std.proofs.Output.{has_written_append}
use Rattle.std.specs.Fmt.{HasWritten}
use Rattle.std.specs.declared.fmt.Formatter.{Formatter}

module _ {W : Type 0} (took : W → List ℕ → W → Type 0) (f : Formatter W) (whole : List ℕ) where
  -- g is f after writing a text, but for what is still to come
  pub record WrittenBut (left : List ℕ) (g : Formatter W) : Type 0 where
    pub text : List ℕ
    pub written : HasWritten took f text g
    pub rest : text ++ left ≡ whole

  -- a part that is written is to come no more
  pub part_written : (due part left : List ℕ) (g h : Formatter W) → due ≡ part ++ left → WrittenBut due g → HasWritten took g part h → WrittenBut left h
  part_written due part left g h parts before wrote = record {
    text = before.text ++ part;
    written = has_written_append took f before.text g part h before.written wrote;
    rest = append_assoc before.text part left ∙ ap (λ (l : List ℕ). before.text ++ l) (sym parts) ∙ before.rest;
  }
