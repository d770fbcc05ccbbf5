-- What is done at an item's operands is what its instruction does.
use Rattle.std.proofs.Common.{◌≡◌, List, [], ◌∷◌, ◌++◌, map, refl, sym, ap, ◌∙◌, Option, Some, None, append-nil, append_assoc}
use Rattle.std.specs.List.{flat_map}
use Rattle.std.proofs.lemmas.Grind.{flat_map-append}
use Rattle.std.proofs.lemmas.List.{map-append}
use Rattle.sil_ast.specs.declared.function.Function.{Function}
use Rattle.sil_ast.specs.declared.inst.Edge.{Edge}
use Rattle.sil_ast.specs.declared.inst.Inst.{Inst}
use Rattle.sil_ast.specs.declared.operands.Operand.{Operand}
use Rattle.sil_cfg.specs.declared.item.Item.{Item}
use Rattle.sil_cfg_items.specs.Items.{item_taken, taken_along_in, taken_in}
use Rattle.sil_cfg_items.specs.Parts.{item_edge, item_inst}
use Rattle.sil_cfg_items.specs.Roles.{consumed, taken_by}
use Rattle.sil_cfg_items.specs.declared.taken.Taken.{Taken}
use Rattle.sil_ast.specs.declared.inst.Qualifier.{Qualifier}
use Rattle.memory_rules_accesses.specs.declared.columns.AccessKind.{AccessKind}
use Rattle.memory_rules_accesses.specs.declared.access.Access.{Access}
use Rattle.memory_rules_accesses.specs.declared.access.Access.TheVariants.{Does}
use Rattle.memory_rules_accesses.specs.Accesses.{does_of}
use Rattle.memory_rules_accesses.specs.Operations.{access_kind_of, operated_at}
use Rattle.memory_rules_accesses.specs.inner.Done.{does_among, done_at}

module _ (k : AccessKind) (q : Qualifier) where
  done_each : (taken : List Taken) → flat_map (done_at k q) taken ≡ map Does (flat_map (operated_at k q) taken)
  done_each [] = refl
  done_each (t ∷ taken) = ap (λ v. done_at k q t ++ v) (done_each taken) ∙ sym (map-append Does (operated_at k q t) (flat_map (operated_at k q) taken))

  -- what is handed over along an edge is no address
  none_along : (operands : List Operand) → flat_map (done_at k q) (map consumed operands) ≡ []
  none_along [] = refl
  none_along (o ∷ operands) = none_along operands

  none_along_at : (e : Option Edge) → flat_map (done_at k q) (taken_along_in e) ≡ []
  none_along_at None = refl
  none_along_at (Some e) = none_along e.args

  done_before : (taken along : List Taken) → flat_map (done_at k q) along ≡ [] → flat_map (done_at k q) (taken ++ along) ≡ map Does (flat_map (operated_at k q) taken)
  done_before taken along none =
      flat_map-append (done_at k q) taken along ∙ ap (λ v. flat_map (done_at k q) taken ++ v) none ∙ append-nil (flat_map (done_at k q) taken) ∙ done_each taken

does_along : (i : Option Inst) (e : Option Edge) → does_among i (taken_in i ++ taken_along_in e) ≡ does_of i
does_along None e = refl
does_along (Some i) e =
    done_before (access_kind_of i.op) i.qualifier (taken_by i) (taken_along_in e) (none_along_at (access_kind_of i.op) i.qualifier e)

pub item_does : (f : Function) (n : Item) → does_among (item_inst f n) (item_taken f n) ≡ does_of (item_inst f n)
item_does f n = does_along (item_inst f n) (item_edge f n)

-- all steps of an item, one behind the other
pub all_steps : (a b c d e g r1 r2 r3 r4 r5 : List Access) → r1 ≡ a → r2 ≡ r1 ++ b → r3 ≡ r2 ++ c → r4 ≡ r3 ++ d → r5 ≡ r4 ++ e → r5 ++ g ≡ a ++ (b ++ (c ++ (d ++ (e ++ g))))
all_steps a b c d e g r1 r2 r3 r4 r5 e1 e2 e3 e4 e5 =
    ap (λ v. v ++ g) e5 ∙ append_assoc r4 e g ∙ ap (λ v. v ++ (e ++ g)) e4 ∙ append_assoc r3 d (e ++ g) ∙ ap (λ v. v ++ (d ++ (e ++ g))) e3 ∙ append_assoc r2 c (d ++ (e ++ g))
    ∙ ap (λ v. v ++ (c ++ (d ++ (e ++ g)))) e2 ∙ append_assoc r1 b (c ++ (d ++ (e ++ g))) ∙ ap (λ v. v ++ (b ++ (c ++ (d ++ (e ++ g))))) e1
