use Rattle.std.proofs.Common.{◌≡◌, ℕ, ◌∷◌, [], ◌++◌, length, nat_lt, true, false, Bool, if◌then◌else◌, refl, ◌∙◌, ap}
use Rattle.vx_section.specs.Forms.{SectionData, admits, admitted}

-- by cases on the two tests of `admitted`
unfoldable pub widened : SectionData → ℕ → Bool → Bool → SectionData
widened s c known room = if known then s
    else if room
    then record { bytes = s.bytes; form = 2; palette = s.palette ++ c ∷ [] }
    else record { bytes = s.bytes; form = 3; palette = [] }

widened_same : (s : SectionData) (b : ℕ) (known room : Bool) → (widened s b known room).bytes ≡ s.bytes
unfolding widened
widened_same s b true room = refl
widened_same s b false true = refl
widened_same s b false false = refl

pub is_widened : (s : SectionData) (b : ℕ) → admitted s b ≡ widened s b (admits s b) (nat_lt (length s.palette) 16)
unfolding widened
is_widened s b = refl

pub admitted_same : (s : SectionData) (b : ℕ) → (admitted s b).bytes ≡ s.bytes
admitted_same s b = ap (λ t. t.bytes) (is_widened s b) ∙ widened_same s b (admits s b) (nat_lt (length s.palette) 16)

pub admitted_once : (s : SectionData) (b : ℕ) → admits s b ≡ true → admitted s b ≡ s
unfolding widened
admitted_once s b h = is_widened s b ∙ ap (λ known. widened s b known (nat_lt (length s.palette) 16)) h
