use Rattle.walk_search.proofs.asked.Asked.before.Goals as goal

pub returns-clause-asked : goal.returns-clause-asked
returns-clause-asked c = c.args.self.now.asked.asked
