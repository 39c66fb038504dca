-- What a function that is called at each element of a list needs of them, and what it leaves of
-- them.
use Rattle.std.specs.Prelude.{◌≡◌, ℕ, ◌<◌, List, length, slice_index_or}
use denote.Ref.{MutBor}
use denote.Param.Members.{Shared}

module _ {F X : Type 0} (g : Shared F (MutBor X × Unit {0}) (Unit {0} × (MutBor X × Unit {0}))) (f : F) where
  -- f may be called with a `&mut` to x
  abbrev pub Accepts : X → Type 0
  Accepts x = (p : MutBor X) → p.now ≡ x → g.pre f (p, tt)

  -- a call of f with a `&mut` to x may leave y there
  pub record Changes (x y : X) : Type 0 where
    pub argument : MutBor X
    pub argument_is : argument.now ≡ x
    pub after_call : MutBor X
    pub call : g.post f (argument, tt) (tt, (after_call, tt))
    pub left : after_call.now ≡ y

  -- f may be called at each of the elements
  abbrev pub AcceptsAll : List X → Type 0
  AcceptsAll xs = (k : ℕ) (d : X) → k < length xs → Accepts (slice_index_or xs k d)

  -- each element of ys is what a call of f left of that of xs
  pub record ChangesAll (xs ys : List X) : Type 0 where
    pub count : length ys ≡ length xs
    pub each : (k : ℕ) (d : X) → k < length xs
        → Changes (slice_index_or xs k d) (slice_index_or ys k d)
