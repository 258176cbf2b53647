-- The columns of one row that are left to be drawn, as spans from the left.
use Rattle.std.specs.Prelude.{ℕ, ◌+◌, ◌≤◌, ◌<◌, Bool, false, ◌||◌, ◌&&◌, nat_lt, nat_le, min, max, List, [], ◌∷◌, ◌++◌, length, flat_map, if◌then◌else◌}
use Rattle.std.specs.List.{filter}

-- a row of some width, and its spans that are left: of each its first column and the one past its last
pub record RowOf : Type 0 where
  pub width : ℕ
  pub spans : List (ℕ × ℕ)

-- whether a column lies from a on and before b
abbrev pub in_columns : ℕ → ℕ → ℕ → Bool
in_columns a b x = nat_le a x && nat_lt x b

-- whether a column is left
abbrev pub in_spans : List (ℕ × ℕ) → ℕ → Bool
in_spans [] x = false
in_spans (span ∷ spans) x = in_columns span.0 span.1 x || in_spans spans x

-- the span from start on and before end, where it has a column
abbrev pub keep : ℕ → ℕ → List (ℕ × ℕ)
keep start end = if nat_lt start end then (start, end) ∷ [] else []

-- what of a span is before a, and what is from b on
abbrev pub span_cut : ℕ → ℕ → (ℕ × ℕ) → List (ℕ × ℕ)
span_cut a b span = keep span.0 (min span.1 a) ++ keep (max span.0 b) span.1

-- the spans without the columns from a on and before b
abbrev pub cut_spans : ℕ → ℕ → List (ℕ × ℕ) → List (ℕ × ℕ)
cut_spans a b spans = if nat_lt a b then flat_map (span_cut a b) spans else spans

-- how many spans end at x or before it
abbrev pub ended_by : ℕ → List (ℕ × ℕ) → ℕ
ended_by x spans = length (filter (λ span. nat_le span.1 x) spans)

-- how many spans begin before x
abbrev pub begun_before : ℕ → List (ℕ × ℕ) → ℕ
begun_before x spans = length (filter (λ span. nat_lt span.0 x) spans)

-- the spans that end past a and begin before b
abbrev pub meeting : ℕ → ℕ → List (ℕ × ℕ) → List (ℕ × ℕ)
meeting a b spans = filter (λ span. nat_lt a span.1 && nat_lt span.0 b) spans

-- spans from the left, the first one not before low and none past high: each has a column, and between two there is one
abbrev pub AreApart : ℕ → ℕ → List (ℕ × ℕ) → Type 0
AreApart low high [] = low ≤ high + 1
AreApart low high (span ∷ spans) = (low ≤ span.0) × (span.0 < span.1) × (span.1 ≤ high) × AreApart (span.1 + 1) high spans
