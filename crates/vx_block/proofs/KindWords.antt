-- No two kinds have one word, and the kind with a word is found among all.
use Rattle.std.proofs.Common.{◌≡◌, ◌+◌, ◌≤◌, ◌<◌, ℕ, suc, Bool, true, false, cond, bytes_eq, List, [], ◌∷◌, drop, get_or, drop-cons, find, Option, Some, None, refl, sym, ap, ◌∙◌, add-one}
use Rattle.std.proofs.lemmas.List.{at_drop_all}
use Rattle.std.proofs.lemmas.Slice.Eq.{bytes_eq-Decides}
use Rattle.vx_base.proofs.Named.{AreOwn, one_named, found_exactly}
use Rattle.vx_block.specs.Kind.{kind_word}
use Rattle.vx_block.specs.declared.kind.Kind.{Kind}
use Rattle.vx_block.specs.declared.kind.Kind.TheVariants.{Air, Stone, Dirt, Planks, Glass, Obsidian, Bedrock, Chest, Dust, Torch, Lever, Repeater, Lamp, Piston, StickyPiston, Head}

abbrev pub kinds : List Kind
kinds = Air ∷ Stone ∷ Dirt ∷ Planks ∷ Glass ∷ Obsidian ∷ Bedrock ∷ Chest
    ∷ Dust ∷ Torch ∷ Lever ∷ Repeater ∷ Lamp ∷ Piston ∷ StickyPiston ∷ Head ∷ []

own_kind : AreOwn kind_word kinds
own_kind Air = refl
own_kind Stone = refl
own_kind Dirt = refl
own_kind Planks = refl
own_kind Glass = refl
own_kind Obsidian = refl
own_kind Bedrock = refl
own_kind Chest = refl
own_kind Dust = refl
own_kind Torch = refl
own_kind Lever = refl
own_kind Repeater = refl
own_kind Lamp = refl
own_kind Piston = refl
own_kind StickyPiston = refl
own_kind Head = refl

pub one_kind : (a b : Kind) → kind_word a ≡ kind_word b → a ≡ b
one_kind = one_named kind_word kinds own_kind

-- the first of these kinds that has the word
abbrev pub with_word : List ℕ → List Kind → Option Kind
with_word word ks = find (λ k. bytes_eq (kind_word k) word) ks

unlike : (a b : List ℕ) → bytes_eq a b ≡ false → bytes_eq b a ≡ false
unlike a b differ = by (bytes_eq b a) refl
  where
    by : (t : Bool) → bytes_eq b a ≡ t → t ≡ false
    by true e =
        let alike : bytes_eq a b ≡ true = (bytes_eq-Decides a b).1 (sym ((bytes_eq-Decides b a).0 e)) in
        cc
    by false e = refl

-- a kind with another word may be passed
pub passed : (word : List ℕ) (i : ℕ) → i < 16 → bytes_eq word (kind_word (get_or kinds i Air)) ≡ false
    → with_word word (drop i kinds) ≡ with_word word kinds → with_word word (drop (i + 1) kinds) ≡ with_word word kinds
passed word i within differs so_far =
    let kind = get_or kinds i Air in
    let rest = drop (suc i) kinds in
    let turn : with_word word (drop i kinds) ≡ with_word word rest =
    ap (with_word word) (drop-cons kinds i Air within) ∙ ap (λ t. cond t (Some kind) (with_word word rest)) (unlike word (kind_word kind) differs) in
    rw add-one (sym turn ∙ so_far)

-- and where all were passed no kind has the word
pub none_left : (word : List ℕ) (i : ℕ) → 16 ≤ i → with_word word (drop i kinds) ≡ with_word word kinds
    → (k : Kind) → kind_word k ≡ word → None ≡ Some k
none_left word i over so_far k same =
    sym (at_drop_all (with_word word) kinds i over) ∙ so_far ∙ (found_exactly kind_word kinds own_kind word k).1 same
