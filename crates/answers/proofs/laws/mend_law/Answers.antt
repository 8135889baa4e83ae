use Rattle.std.proofs.Common.{refl}
use Rattle.net_items.specs.Lookups.{plan_at}
use Rattle.script_words.specs.declared.questions.Question.TheVariants as question
use Rattle.what_if.specs.declared.wanted.Wanted.TheVariants.{Reached, Allowed}
use Rattle.answers.proofs.MendLemmas.{meant}
use Rattle.answers.proofs.laws.mend_law.Goals as goal

pub returns-clause-reached : goal.returns-clause-reached
returns-clause-reached c = λ net valid y x told e. meant question.Mend Reached (λ ni src state. refl) net valid y x told (plan_at net.plans x) refl e

pub returns-clause-allowed : goal.returns-clause-allowed
returns-clause-allowed c = λ net valid y x told e. meant question.MendAllowed Allowed (λ ni src state. refl) net valid y x told (plan_at net.plans x) refl e
