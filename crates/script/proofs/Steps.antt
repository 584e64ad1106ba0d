-- A turn more of the loop that reports.
use Rattle.std.proofs.Common.{◌≡◌, ℕ, ◌+◌, ◌<◌, ◌≤◌, List, ◌++◌, length, get_or, drop, sym, ◌∙◌, subst, append_assoc, append-nil}
use Rattle.std.proofs.lemmas.List.{drop_more, drop_all}
use Rattle.curve.specs.declared.written.Written.{Written}
use Rattle.replay.specs.declared.call.Moment.{Moment}
use Rattle.script.specs.Entries.{entry_fault}
use Rattle.script.specs.Telling.{entry_text, moments_after, report_text}
use Rattle.script.specs.declared.entry.Entry.{Entry}

pub report_more : (es : List Entry) (i : ℕ) (e : Entry) (ms ms' : List (Moment Written)) (text text' line : List ℕ) → i < length es → e ≡ get_or es i e → line ≡ entry_text (entry_fault e) ms → ms' ≡ moments_after (entry_fault e) ms → text' ≡ text ++ line → text' ++ report_text (drop (i + 1) es) ms' ≡ text ++ report_text (drop i es) ms
report_more es i e ms ms' text text' line less is told left grown =
    rw (grown, told, left, drop_more es i e less, ← is) (append_assoc text (entry_text (entry_fault e) ms) (report_text (drop (i + 1) es) (moments_after (entry_fault e) ms)))

pub report_done : (es : List Entry) (i : ℕ) (ms : List (Moment Written)) (text whole : List ℕ) → length es ≤ i → text ++ report_text (drop i es) ms ≡ whole → text ≡ whole
report_done es i ms text whole past h =
    sym (append-nil text) ∙ subst (λ (l : List Entry). text ++ report_text l ms ≡ whole) (drop_all i es past) h
