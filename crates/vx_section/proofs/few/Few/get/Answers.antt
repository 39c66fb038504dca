use Rattle.std.proofs.Common.{◌≡◌, true, nat_eq, take, get_or, sym, subst, arith}
use Rattle.std.specs.List.{list_any}
use Rattle.vx_section.specs.Forms.{unpacked}
use Rattle.vx_section.proofs.Pairing.{unpacked_known}
use Rattle.vx_section.proofs.few.Few.get.Goals as goal

pub returns-clause-known : goal.returns-clause-known
returns-clause-known c =
    let few = c.self.inside in
    let held = c.self.invariant in
    let read : c.byte_of.result ≡ get_or (unpacked few.palette few.pairs) c.args.place 0 =
    c.byte_of.ensures in
    rw (← c.self.view_is) (subst (λ b. list_any (nat_eq b) (take few.used few.palette) ≡ true) (sym read)
    (unpacked_known few.palette few.pairs few.used c.args.place (omega (arith, held.kinds, held.most)) held.numbers (omega (arith, held.whole, c.requires))))
