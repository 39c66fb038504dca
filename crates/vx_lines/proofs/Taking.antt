-- What is left to read, as the bytes of a line are taken from it.
use Rattle.std.proofs.Common.{◌≡◌, ℕ, ◌+◌, ◌<◌, ◌≤◌, Result, Ok, Err, OnOk, OnErr, subst, ◌==◌, if◌then◌else◌, Bool, true, false, List, [], ◌∷◌, ◌++◌, length, ap, sym, ◌∙◌, arith, append_assoc, append-nil}
use Rattle.std.proofs.lemmas.Bool.{eqb-false}
use Rattle.vx_lines.specs.Buffered.{Buffered}
use Rattle.vx_lines.specs.Lines.{line_feed, lines_of, IsPiece, TakesPiece, IsNextLong}
use Rattle.vx_lines.proofs.Feeds.{lines_of-feed, lines_of-piece, first_line_long}

-- two pieces in a row are one
pub pieces_append : (p q : List ℕ) → IsPiece p → IsPiece q → IsPiece (p ++ q)
pieces_append [] q h k = k
pieces_append (b ∷ p) q h k = (h.0, pieces_append p q h.1 k)

-- a piece that a line feed ends is the line
pub line_taken : (front rest piece new more : List ℕ) → IsPiece front → TakesPiece true rest piece new
    → lines_of ((front ++ rest) ++ more) ≡ (front ++ piece) ∷ lines_of (new ++ more)
line_taken front rest piece new more p t =
    let grouped : (front ++ (piece ++ line_feed ∷ new)) ++ more ≡ (front ++ piece) ++ line_feed ∷ (new ++ more) = simp append_assoc in
    ap lines_of (ap (λ i. (front ++ i) ++ more) t.1 ∙ grouped) ∙ lines_of-feed (front ++ piece) (new ++ more) (pieces_append front piece p t.0)

long_from : (most : ℕ) (piece more : List ℕ) → IsPiece piece → most < length piece → IsNextLong most (piece ++ more)
long_from most [] more p long = absurd (omega arith)
long_from most (b ∷ bs) more p long =
    let begins = first_line_long b bs more p in
    (begins.line, begins.rest, begins.parts, omega (arith, begins.long))

-- what a piece was taken from begins with it
front_taken : (found : Bool) (rest piece new : List ℕ) → TakesPiece found rest piece new → IsPiece piece × (tail : List ℕ) × (rest ≡ piece ++ tail)
front_taken true rest piece new t = (t.0, line_feed ∷ new, t.1)
front_taken false rest piece new t = (t.0, [], t.1 ∙ sym (append-nil piece))

-- a line that is too long already is too long
pub line_long : (most : ℕ) (front rest piece new more : List ℕ) (found : Bool) → IsPiece front
    → TakesPiece found rest piece new → most < length (front ++ piece) → IsNextLong most ((front ++ rest) ++ more)
line_long most front rest piece new more found p t long =
    let taken = front_taken found rest piece new t in
    let grouped : (front ++ (piece ++ taken.1)) ++ more ≡ (front ++ piece) ++ (taken.1 ++ more) = simp append_assoc in
    let next = long_from most (front ++ piece) (taken.1 ++ more) (pieces_append front piece p taken.0) long in
    (next.0, next.1, ap lines_of (ap (λ i. (front ++ i) ++ more) taken.2 ∙ grouped) ∙ next.2, next.3)

-- a piece alone is a line, if it has a byte
pub alone : (line : List ℕ) → IsPiece line → 0 < length line → lines_of line ≡ line ∷ []
alone [] p some = absurd (omega arith)
alone (b ∷ bs) p some = lines_of-piece b bs p

-- at the end of the script what was read last is a line, if it has a byte
pub last_line : (is_open : Bool) (line rest : List ℕ) → is_open ≡ true → IsPiece (if is_open then line else []) → rest ≡ [] → 0 < length line
    → lines_of ((if is_open then line else []) ++ rest) ≡ line ∷ []
last_line true line rest opened piece none some = ap (λ r. lines_of (line ++ r)) none ∙ ap lines_of (append-nil line) ∙ alone line piece some
last_line false line rest opened piece none some = cc

-- what is not empty has a byte
pub filled_is : (n : ℕ) → false ≡ (n == 0) → 0 < n
filled_is n is = let some = eqb-false n 0 (sym is) in omega (arith, some)

-- what was read adds to both sides
pub counted : {E : Type 0} (r : Result Bool E) (number front : ℕ) (old new : Buffered) → OnOk r (new.bytes ≡ old.bytes + length new.rest) → OnErr r (new ≡ old)
    → number + front + length old.rest ≤ old.bytes → number + front + length new.rest ≤ new.bytes
counted (Ok more) number front old new count same before = omega (arith, count)
counted (Err e) number front old new count same before = subst (λ b. number + front + length b.rest ≤ b.bytes) (sym same) before
