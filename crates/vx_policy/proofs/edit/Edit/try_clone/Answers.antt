use Rattle.std.proofs.lemmas.Result.{IfOk-from_err}
use Rattle.vx_policy.proofs.edit.Edit.try_clone.Goals as goal

pub returns-in_err-id : goal.returns-in_err-id
returns-in_err-id c = IfOk-from_err c.from_residual.result _ c.from_residual.ensures.0

pub returns-in_err-try_clone-in-Define : goal.returns-in_err-try_clone-in-Define
returns-in_err-try_clone-in-Define c = IfOk-from_err c.from_residual-in_err-try_clone-in-Define.result _ c.from_residual-in_err-try_clone-in-Define.ensures.0

pub returns-in_err-try_clone-in-Reshape : goal.returns-in_err-try_clone-in-Reshape
returns-in_err-try_clone-in-Reshape c = IfOk-from_err c.from_residual-in_err-try_clone-in-Reshape.result _ c.from_residual-in_err-try_clone-in-Reshape.ensures.0

pub returns-in_err-from_str-in-Owner : goal.returns-in_err-from_str-in-Owner
returns-in_err-from_str-in-Owner c = IfOk-from_err c.from_residual-in_err-from_str-in-Owner.result _ c.from_residual-in_err-from_str-in-Owner.ensures.0

pub returns-in_err-from_str-in-Member : goal.returns-in_err-from_str-in-Member
returns-in_err-from_str-in-Member c = IfOk-from_err c.from_residual-in_err-from_str-in-Member.result _ c.from_residual-in_err-from_str-in-Member.ensures.0

pub returns-in_err-from_str-in-Domain : goal.returns-in_err-from_str-in-Domain
returns-in_err-from_str-in-Domain c = IfOk-from_err c.from_residual-in_err-from_str-in-Domain.result _ c.from_residual-in_err-from_str-in-Domain.ensures.0

pub returns-in-Remove : goal.returns-in-Remove
returns-in-Remove c = rw (c.in_ok-id.ensures.ok, c.target.ensures, c.in-Remove.is)

pub returns-in-SetFlag : goal.returns-in-SetFlag
returns-in-SetFlag c = rw (c.in_ok-id.ensures.ok, c.target.ensures, c.in-SetFlag.is)

pub returns-in-ClearFlag : goal.returns-in-ClearFlag
returns-in-ClearFlag c = rw (c.in_ok-id.ensures.ok, c.target.ensures, c.in-ClearFlag.is)

pub returns-in_ok-try_clone-in-Define : goal.returns-in_ok-try_clone-in-Define
returns-in_ok-try_clone-in-Define c = rw (c.in_ok-id.ensures.ok, c.target.ensures, c.in_ok-try_clone-in-Define.ensures, c.in-Define.is)

pub returns-in_ok-try_clone-in-Reshape : goal.returns-in_ok-try_clone-in-Reshape
returns-in_ok-try_clone-in-Reshape c = rw (c.in_ok-id.ensures.ok, c.target.ensures, c.in_ok-try_clone-in-Reshape.ensures, c.in-Reshape.is)

pub returns-in_ok-from_str-in-Owner : goal.returns-in_ok-from_str-in-Owner
returns-in_ok-from_str-in-Owner c =
    rw (c.in_ok-id.ensures.ok, c.target.ensures, c.in_ok-from_str-in-Owner.ensures.ok, c.deref-in-Owner.ensures, c.in-Owner.is)

pub returns-in_ok-from_str-in-Member : goal.returns-in_ok-from_str-in-Member
returns-in_ok-from_str-in-Member c =
    rw (c.in_ok-id.ensures.ok, c.target.ensures, c.in_ok-from_str-in-Member.ensures.ok, c.deref-in-Member.ensures, c.in-Member.is)

pub returns-in_ok-from_str-in-Domain : goal.returns-in_ok-from_str-in-Domain
returns-in_ok-from_str-in-Domain c =
    rw (c.in_ok-id.ensures.ok, c.target.ensures, c.in_ok-from_str-in-Domain.ensures.ok, c.deref-in-Domain.ensures, c.in-Domain.is)
