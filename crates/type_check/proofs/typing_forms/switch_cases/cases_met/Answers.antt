use Rattle.std.proofs.Common.{◌≡◌, ◌+◌, ◌<◌, ◌∷◌, length, drop, refl, sym, ap, ◌∙◌, arith, true, false, length-set}
use Rattle.std.specs.Prelude.{◌&&◌, ◌||◌, slice_index_or}
use Rattle.std.specs.List.{list_all, cons_option}
use Rattle.sil_rules.specs.declared.limits.TheConstants.{MEMBERS}
use Rattle.sil_types.specs.Typing.SwitchRules.{are_once, has_number, places_of}
use Rattle.type_check.proofs.TypingForms.MetCases.{is_free, once_at_first, met_at_first, places_from, once_more, met_more}
use Rattle.type_check.proofs.typing_forms.switch_cases.cases_met.Goals as goal
use Rattle.type_check.proofs.typing_forms.switch_cases.cases_met.Goals.{in-Some+else-met-place, in_default}

pub loop-edge-init : goal.loop-edge-init
loop-edge-init c =
    let ns = places_of c.args.table.now c.args.ty.now c.args.edges.now in
    record { size = refl; once = once_at_first MEMBERS ns; met = λ k lt. met_at_first MEMBERS k ns }

pub loop-edge-preserved : goal.loop-edge-preserved
loop-edge-preserved c =
    let d = c.args.table.now in
    let t = c.args.ty.now in
    let es = c.args.edges.now in
    let i = c.loop-edge.edge-index in
    let met = c.loop-edge.met in
    let here = places_of d t (drop i es) in
    let ns = places_of d t (drop (i + 1) es) in
    let from = places_from d t es i c.edge-item.result c.loop-edge-test.true c.edge-item.is in
    elim c.match-place_in_enum.branch [
      | in-Some+else-met-place w ↦
          let p = w.in-Some.place in
          let e : here ≡ p ∷ ns = from ∙ ap (λ o. cons_option o ns) (sym c.place_in_enum.ensures.exact ∙ w.in-Some.is) in
          let lt : p < length met = omega (arith, w.in-Some.ensures.few, c.loop-edge.invariant.size) in
          record {
            size = ap length w.met-is ∙ length-set met p true ∙ c.loop-edge.invariant.size;
            once = c.loop-edge.invariant.once ∙ once_more met p here ns e lt w.if-met-place.false ∙ ap (λ m. are_once ns && list_all (is_free m) ns) (sym w.met-is);
            met = λ k k-lt. c.loop-edge.invariant.met k k-lt ∙ met_more met p k here ns e lt ∙ ap (λ m. slice_index_or m k false || has_number ns k) (sym w.met-is);
          }
      | in_default w ↦
          let e : here ≡ ns = from ∙ ap (λ o. cons_option o ns) (sym c.place_in_enum.ensures.exact ∙ w.in_default.is) in
          record {
            size = ap length w.met-is ∙ c.loop-edge.invariant.size;
            once = c.loop-edge.invariant.once ∙ ap (λ xs. are_once xs && list_all (is_free met) xs) e ∙ ap (λ m. are_once ns && list_all (is_free m) ns) (sym w.met-is);
            met = λ k k-lt. c.loop-edge.invariant.met k k-lt ∙ ap (λ xs. slice_index_or met k false || has_number xs k) e ∙ ap (λ m. slice_index_or m k false || has_number ns k) (sym w.met-is);
          }
    ]
