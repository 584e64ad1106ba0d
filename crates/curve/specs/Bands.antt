-- The band curve of a cold edge p, a warm edge q, a cold rate c and a warm rate d.
use Rattle.std.specs.Prelude.{ℕ, ◌+◌, ◌-◌, ◌*◌, cond, ◌&&◌, [], ◌∷◌, ℤ, pos, neg_ℤ, Option, nat_le, nat_lt}
use Rattle.curve.specs.Answers.{broken}
use Rattle.curve.specs.Limits.{top, rate_limit}
use Rattle.curve.specs.declared.fault.CurveFault.{CurveFault}
use Rattle.curve.specs.declared.fault.CurveFault.TheVariants.{Edges, Rate}

-- why it cannot be made
abbrev pub band_fault : ℕ → ℕ → ℕ → ℕ → Option CurveFault
band_fault p q c d = broken ((nat_le p q && nat_le q top, Edges) ∷ (nat_le c rate_limit && nat_le d rate_limit, Rate) ∷ [])

-- what it costs at level v: the cold rate for each level below the cold edge and the warm rate for each level above the warm edge
unfoldable pub band_cost : ℕ → ℕ → ℕ → ℕ → ℕ → ℤ
band_cost p q c d v = pos (c * (p - v) + d * (v - q))

-- what it costs at level 0
abbrev pub band_ground : ℕ → ℕ → ℤ
band_ground p c = pos (c * p)

-- what one level more costs at level v: below the cold edge it saves the cold rate, from the warm edge on it costs the warm rate
abbrev pub band_step : ℕ → ℕ → ℕ → ℕ → ℕ → ℤ
band_step p q c d v = cond (nat_lt v p) (neg_ℤ (pos c)) (cond (nat_lt v q) (pos 0) (pos d))
