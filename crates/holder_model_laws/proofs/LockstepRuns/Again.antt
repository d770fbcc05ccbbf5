-- A module runs as it did itself, and what is rewritten once and again runs as the first did.
use Rattle.std.proofs.Common.{ℕ, arith, refl, ◌∙◌}
use Rattle.sil_ast.specs.declared.module.Module.{Module}
use Rattle.sil_ast.specs.declared.place.FuncId.{FuncId}
use Rattle.holder_model.specs.Faults.{HolderFault}
use Rattle.holder_model.specs.HolderStates.{HolderState}
use Rattle.holder_model.specs.ModuleFacts.{ModuleFacts}
use Rattle.holder_model.specs.States.{Ending}
use Rattle.holder_model_laws.specs.LockstepRuns.inner.Agreeing.{EndsAsItDid, RunsAgree}
use Rattle.holder_model_laws.specs.LockstepRuns.inner.Laws.{IsAsItDidAgain}

as_itself : (x : Ending HolderFault) (s : HolderState) → EndsAsItDid x s s
as_itself x s = record { events = refl; memory = refl; left = refl; turns = refl; retains = omega arith; releases = omega arith }

as_both : (x : Ending HolderFault) (s t u : HolderState) → EndsAsItDid x s t → EndsAsItDid x t u → EndsAsItDid x s u
as_both x s t u a b = record {
  events = b.events ∙ a.events;
  memory = b.memory ∙ a.memory;
  left = b.left ∙ a.left;
  turns = b.turns ∙ a.turns;
  retains = let p = a.retains in let q = b.retains in omega (arith, p, q);
  releases = let p = a.releases in let q = b.releases in omega (arith, p, q);
}

agree_itself : (m : Module) (told : ModuleFacts) (e : FuncId) (bound : ℕ) → RunsAgree m m told told e bound
agree_itself m told e bound = record {
  forth = λ x s ends. record { second = s; ends = ends; as_it_did = as_itself x s };
  back = λ x s ends. record { first = s; ends = ends; as_it_did = as_itself x s };
}

agree_both : (m m' m'' : Module) (told told' told'' : ModuleFacts) (e : FuncId) (bound : ℕ) → RunsAgree m m' told told' e bound
    → RunsAgree m' m'' told' told'' e bound → RunsAgree m m'' told told'' e bound
agree_both m m' m'' told told' told'' e bound a b = record {
  forth = λ x s ends.
      let y = a.forth x s ends in
      let z = b.forth x y.second y.ends in
      record { second = z.second; ends = z.ends; as_it_did = as_both x s y.second z.second y.as_it_did z.as_it_did };
  back = λ x s ends.
      let z = b.back x s ends in
      let y = a.back x z.first z.ends in
      record { first = y.first; ends = y.ends; as_it_did = as_both x y.first z.first s y.as_it_did z.as_it_did };
}

pub as_it_did_again : IsAsItDidAgain
as_it_did_again = (
  λ m. record { starts = λ e may. may; started = λ e may. may; agree = λ e bound may. agree_itself m _ e bound },
  λ m m' m'' a b. record {
    starts = λ e may. b.starts e (a.starts e may);
    started = λ e may. a.started e (b.started e may);
    agree = λ e bound may. agree_both m m' m'' _ _ _ e bound (a.agree e bound may) (b.agree e bound (a.starts e may));
  },
)
