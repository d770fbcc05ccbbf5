use Rattle.std.proofs.Common.{◌≡◌, ◌++◌, ◌∷◌, [], ◌+◌, ◌<◌, get_or, ℕ, List, length, take, map, ap, sym, ◌∙◌, append_assoc, append-nil, Option}
use Rattle.std.specs.List.{slice_get}
use Rattle.std.specs.Option.{option_copied, option_to_list}
use Rattle.sil_ast.specs.declared.operands.Operand.{Operand}
use Rattle.sil_cfg_items.specs.declared.taken.Taken.{Taken}
use Rattle.sil_cfg_items.specs.declared.taken.Treatment.{Treatment}
use Rattle.sil_cfg_items.specs.Roles.{conventions_by, roles_for, taken_as, taken_each}
use Rattle.sil_cfg_items.proofs.Roling.{taken_each_more}
use Rattle.sil_cfg_items.proofs.taken.add_operands.Goals as goal
use Rattle.sil_cfg_items.proofs.taken.add_operands.Goals.{in-Some+in_ok-push, in_default}

next : (old taken new : List Taken) (os : List Operand) (ts : List Treatment) (i : ℕ) (o : Operand) (t : Option Treatment) → i < length os → o ≡ get_or os i o →
    t ≡ slice_get ts i → taken ≡ old ++ taken_each (take i os) ts → new ≡ taken ++ map (taken_as o) (option_to_list t) → new ≡ old ++ taken_each (take (i + 1) os) ts
next old taken new os ts i o t lt e treatment so_far pushed =
    pushed ∙ ap (λ v. v ++ map (taken_as o) (option_to_list t)) so_far ∙ append_assoc old (taken_each (take i os) ts) (map (taken_as o) (option_to_list t)) ∙
    ap (λ v. old ++ (taken_each (take i os) ts ++ map (taken_as o) (option_to_list v))) treatment ∙ ap (λ v. old ++ v) (sym (taken_each_more os ts i o lt e))

pub loop-i-preserved : goal.loop-i-preserved
loop-i-preserved c =
    next c.args.taken.now.items c.loop-i.taken.items c.match-treatment_at.taken.items c.args.operands.now
    (roles_for c.args.row.now (conventions_by (option_copied c.args.signature)) (length c.args.operands.now)) c.loop-i.i
    c.index-operands-i.result c.treatment_at.result c.loop-i-test.true c.index-operands-i.is
    (c.treatment_at.ensures (length c.args.operands.now) c.loop-i-test.true) c.loop-i.invariant
    (elim c.match-treatment_at.branch [
      | in-Some+in_ok-push w ↦ ap (λ v. v.items) w.taken-is ∙ w.in_ok-push.ensures.items
          ∙ ap (λ t. c.loop-i.taken.items ++ t ∷ []) w.taken_as.ensures
          ∙ ap (λ o. c.loop-i.taken.items ++ map (taken_as c.index-operands-i.result) (option_to_list o)) (sym w.in-Some.is)
      | in_default w ↦ ap (λ v. v.items) w.taken-is ∙ sym (append-nil c.loop-i.taken.items)
          ∙ ap (λ o. c.loop-i.taken.items ++ map (taken_as c.index-operands-i.result) (option_to_list o)) (sym w.in_default.is)
    ])
