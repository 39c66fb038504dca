-- Each part is found by its own text.
use Rattle.std.proofs.Common.{◌≡◌, ℕ, List, Option, Some, IfSome, rules}
use Rattle.vx_base.proofs.Named as of_texts
use Rattle.vx_block.specs.declared.part.Part.{Part}
use Rattle.vx_block.specs.Part.{part_text, parts, part_of}

pub own_part : (p : Part) → part_of (part_text p) ≡ Some p
unfolding part_of
own_part p = search rules

-- no two parts have one text
pub one_part : (a b : Part) → part_text a ≡ part_text b → a ≡ b
unfolding part_of
one_part = of_texts.one_named part_text parts own_part

-- what is found and the only one is the part of that text
pub named : (r : Option Part) (text : List ℕ) → IfSome r (λ p. part_text p ≡ text)
    → ((p : Part) → part_text p ≡ text → r ≡ Some p) → r ≡ part_of text
unfolding part_of
named = of_texts.named part_text parts own_part
