-- Each contract of this crate allows one result.
use Rattle.std.proofs.Common.{◌≡◌, sym, ap, ◌∙◌, ℕ}
use Rattle.time.specs.declared.Instant.{Instant}
use Rattle.time.specs.declared.Span.{Span}
use Rattle.time.specs.Kinds.{instant, span, Later, Between, Longer, Less, Widened}

pub instant_plus_pinned : (i : Instant) (s : Span) (q r : Instant) → Later i s q → Later i s r → q ≡ r
instant_plus_pinned i s q r e f = ap instant (e ∙ sym f)

pub instant_since_pinned : (i j : Instant) (q r : Span) → Between i j q → Between i j r → q ≡ r
instant_since_pinned i j q r e f = ap span (e ∙ sym f)

pub span_plus_pinned : (s t q r : Span) → Longer s t q → Longer s t r → q ≡ r
span_plus_pinned s t q r e f = ap span (e ∙ sym f)

pub span_less_pinned : (s t q r : Span) → Less s t q → Less s t r → q ≡ r
span_less_pinned s t q r e f = ap span (e ∙ sym f)

pub widened_pinned : (s : Span) (m n : ℕ) → Widened s m → Widened s n → m ≡ n
widened_pinned s m n e f = e.0 ∙ sym f.0
