-- What a section becomes where a byte takes another form.
use Rattle.std.proofs.Common.{◌≡◌, ℕ, ◌<◌, ◌∷◌, [], ◌||◌, ◌&&◌, length, nat_eq, nat_lt, true, false, set, refl, sym, subst, ◌∙◌, ap}
use Rattle.std.proofs.lemmas.Bool.{eq-eqb, eqb-true}
use Rattle.vx_section.specs.Forms.{SectionData, admitted, with_byte, filled, fresh, IsFull}
use Rattle.vx_section.proofs.Filled.{set_filled}
use Rattle.vx_section.proofs.Admitting.{widened, is_widened, admitted_once}

-- the byte of a fresh section put down again
pub one_again : (old byte place : ℕ) → place < 4096 → nat_eq old byte ≡ true → fresh old ≡ with_byte (admitted (fresh old) byte) place byte
one_again old byte place near same =
    let is : old ≡ byte = eqb-true old byte same in
    subst (λ b. fresh old ≡ with_byte (admitted (fresh old) b) place b) is
    (sym (ap (λ s. with_byte s place old) (admitted_once (fresh old) old (ap (λ t. t || false) (eq-eqb old old refl)))
    ∙ (λ i. record { bytes = set_filled 4096 old place near i; form = 1; palette = old ∷ [] })))

-- another one
pub one_grown : (old byte place : ℕ) → IsFull (fresh old) byte
    → with_byte (admitted (fresh old) byte) place byte ≡ record { bytes = set (filled 4096 old) place byte; form = 2; palette = old ∷ byte ∷ [] }
unfolding widened
one_grown old byte place full =
    ap (λ s. with_byte s place byte) (is_widened (fresh old) byte ∙ ap (λ known. widened (fresh old) byte known true) full.lacking)

-- a seventeenth
pub few_grown : (s : SectionData) (byte place : ℕ) → s.form ≡ 2 → IsFull s byte
    → with_byte (admitted s byte) place byte ≡ record { bytes = set s.bytes place byte; form = 3; palette = [] }
unfolding widened
few_grown s byte place two full =
    let room : nat_lt (length s.palette) 16 ≡ false = ap (λ n. nat_eq n 2 && nat_lt (length s.palette) 16) (sym two) ∙ full.roomless in
    ap (λ s. with_byte s place byte) (is_widened s byte ∙ ap (λ known. widened s byte known (nat_lt (length s.palette) 16)) full.lacking
    ∙ ap (widened s byte false) room)
