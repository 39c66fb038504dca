use Rattle.std.proofs.Common.{sym, ap, ◌∙◌}
use Rattle.std.proofs.lemmas.Bool.{false≢true}
use Rattle.std.proofs.lemmas.Bool.Decides.{Decides-at, Decides-like}
use Rattle.vx_record.proofs.Decided.{cmd_decided, answer_decided}
use Rattle.vx_record.proofs.call.Call.is_in.Goals as goal

pub returns-then-eq : goal.returns-then-eq
returns-then-eq c =
    let cmd = (cmd_decided c.args.self.now.cmd c.args.entry.now.cmd).0 (sym c.eq.ensures ∙ c.if-eq.true) in
    Decides-like _ (λ same i. record { cmd = cmd i; answer = same i }) (λ e. ap (λ call. call.answer) e)
    (Decides-at _ _ c.eq-then-eq.ensures (answer_decided _ _))

pub returns-else-eq : goal.returns-else-eq
returns-else-eq c = (
  λ yes. absurd (false≢true (sym c.if-eq.false ∙ yes)),
  λ same. c.eq.ensures ∙ (cmd_decided c.args.self.now.cmd c.args.entry.now.cmd).1 (ap (λ call. call.cmd) same),
)
