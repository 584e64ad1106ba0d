-- Each number of the rules for days, once.
use Rattle.std.specs.Prelude.{ℕ}

-- the most slots of a day
abbrev pub most_slots : ℕ
most_slots = 192

-- the largest toll
abbrev pub toll_limit : ℕ
toll_limit = 1000000000

-- the numbers of the work table that planning needs
abbrev pub table_length : ℕ
table_length = 1023
