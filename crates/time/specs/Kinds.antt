-- The two kinds of time, and what each operation gives for every two numbers.
use Rattle.std.specs.Prelude.{◌≡◌, ℕ, ◌+◌, ◌-◌, ◌≤◌, min}
use Rattle.time.specs.declared.Instant.{Instant}
use Rattle.time.specs.declared.Span.{Span}

abbrev pub instant : ℕ → Instant
instant n = record { 0 = n }

abbrev pub span : ℕ → Span
span n = record { 0 = n }

-- the largest number of a word
abbrev pub largest : ℕ
largest = 18446744073709551615

-- r lies the span s after i; the largest instant where that does not fit a word
abbrev pub Later : Instant → Span → Instant → Type 0
Later i s r = r.0 ≡ min (i.0 + s.0) largest

-- r is the span from i to j; nought where j is not after i
abbrev pub Between : Instant → Instant → Span → Type 0
Between i j r = r.0 ≡ j.0 - i.0

-- r is s and then t; the largest span where that does not fit a word
abbrev pub Longer : Span → Span → Span → Type 0
Longer s t r = r.0 ≡ min (s.0 + t.0) largest

-- r is what is left of s without t; nought where t is not shorter
abbrev pub Less : Span → Span → Span → Type 0
Less s t r = r.0 ≡ s.0 - t.0

-- n is the number of the span s, which a word holds
abbrev pub Widened : Span → ℕ → Type 0
Widened s n = (n ≡ s.0) × (n ≤ largest)
