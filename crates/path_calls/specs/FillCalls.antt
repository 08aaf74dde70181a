-- States behind calls of functions outside that fill buffers.
use Rattle.std.specs.Prelude.{◌++◌, ◌∷◌, [], List, Some}
use Rattle.plain_data.specs.declared.run.Finish.TheVariants as finish
use Rattle.plain_data.specs.declared.run.Undefined.TheVariants.{Dereference, LiteralWrite}
use Rattle.core_tree.specs.Numbers.{converted_to}
use Rattle.term_bank.specs.declared.shape.Shape.{Shape}
use Rattle.path_states.specs.declared.state.Number.{Number}
use Rattle.path_states.specs.declared.state.State.{State}
use Rattle.path_states.specs.declared.state.Walked.{Walked}
use Rattle.path_states.specs.States.{number_in}
use Rattle.path_numbers.specs.Answers.{Numbered}
use Rattle.path_steps.specs.Exits.{Settles}
use Rattle.path_forms.specs.declared.calling.CallSite.{CallSite}
use Rattle.path_calls.specs.declared.fills.FillReply.{FillReply}

-- the state with the memory that is left and the answer on its operands, unless the run ends at the call's token
pub record SettlesFill (a c : List Shape) (t : State) (site : CallSite) (r : FillReply) (w : Walked) : Type 0 where
  pub middle : List Shape
  pub last : Number
  pub numbered : Numbered a middle last (λ v. converted_to site.answer (number_in v r.reply.number))
  pub settles : Settles middle c t (record t { memory = r.reply.memory; operands = t.operands ++ last ∷ [] })
      (Some (record { truth = r.no_access; finish = finish.Stopped Dereference site.at }))
      (Some (record { truth = r.no_write; finish = finish.Stopped LiteralWrite site.at })) w
