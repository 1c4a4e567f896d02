-- `refusal_in` meets its contract.
use Rattle.rules.specs.definitions.Answers.{refusal_in}
use borrow.Author.Rules.{rules}
use Rattle.answer.proofs.refusal_in.Goals as goal

pub returns : goal.returns
unfolding refusal_in
returns c = search rules
