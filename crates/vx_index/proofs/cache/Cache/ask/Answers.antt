use Rattle.vx_index.proofs.Recalled.{recalled, some_right, one_more_right}
use Rattle.vx_index.specs.Verdicts.{AreVerdicts}
use Rattle.vx_index.specs.declared.asked.Asked.{Asked}
use Rattle.vx_index.proofs.cache.Cache.ask.Goals as goal

pub returns-in-Some-recall-clause-verdict : goal.returns-in-Some-recall-clause-verdict
returns-in-Some-recall-clause-verdict c =
    let found = c.in-Some-recall.ensures.found in
    recalled c.args.regions.now c.args.self.now.kept
    (record { name = c.args.name.now; action = c.args.action; place = c.args.p }) found.0 c.in-Some-recall.verdict
    c.requires.kept.verdicts found.1 found.2

pub returns-in-Some-recall-clause-kept : goal.returns-in-Some-recall-clause-kept
returns-in-Some-recall-clause-kept c = record {
  verdicts = some_right c.args.regions.now c.args.self.now.kept c.recall.new.self c.requires.kept.verdicts c.recall.ensures.kept;
}

pub returns-clause-kept : goal.returns-clause-kept
returns-clause-kept c =
    let rs = c.args.regions.now in
    let asked : Asked = record { name = c.args.name.now; action = c.args.action; place = c.args.p } in
    let left = c.recall.new.self in
    let right : AreVerdicts rs left = some_right rs c.args.self.now.kept left c.requires.kept.verdicts c.recall.ensures.kept in
    record {
      verdicts = one_more_right rs left c.keep.new.self asked c.decide-verdict.result right c.decide-verdict.ensures c.keep.ensures;
    }
