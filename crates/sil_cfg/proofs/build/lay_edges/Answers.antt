use Rattle.std.proofs.Common.{◌≡◌, ◌<◌, ◌+◌, suc, ℕ, List, [], ◌∷◌, ◌++◌, length, take, subst, sym, ap, ◌∙◌, refl, Some, arith}
use Rattle.std.specs.List.{slice_get}
use Rattle.std.proofs.lemmas.Option.{slice_get_read}
use Rattle.sil_ast.specs.declared.inst.Edge as edge
use Rattle.sil_cfg.specs.declared.item.Item.{Item}
use Rattle.sil_cfg.specs.declared.item.Item.TheVariants.{Edge}
use Rattle.sil_cfg.specs.declared.layout.EdgeFlow.{EdgeFlow}
use Rattle.sil_cfg.specs.Flow.{edge_id}
use Rattle.sil_cfg.specs.inner.Laying.{Adds, AreEdgesLaid}
use Rattle.sil_cfg.proofs.Gets.{length_push}
use Rattle.sil_cfg.proofs.Numbers.{adds_push, edges_push}
use Rattle.sil_cfg.proofs.build.lay_edges.Goals as goal

pub loop-index-preserved : goal.loop-index-preserved
loop-index-preserved c =
    let i : ℕ = c.loop-index.index in
    let edges : List edge.Edge = c.as_slice-edge-items.result.now in
    let kinds : List Item = c.loop-index.kinds.items in
    let within : i < length edges = omega arith in
    let there : slice_get edges i ≡ Some c.edge-item.result = slice_get_read edges (length edges) i c.edge-item.result refl within c.edge-item.is in
    let size : length c.loop-index.flows.items ≡ i = c.loop-index.invariant.size in
    let same : edges ≡ c.args.block.now.terminator.edges = c.loop-index.invariant.same in
    let few : i < length c.args.block.now.terminator.edges = subst (λ (v : List edge.Edge). i < length v) same within in
    let laid = edges_push kinds c.args.b.0 i edges c.edge-item.result c.loop-index.flows.items c.loop-index.invariant.edges there size in
    let new_kinds : c.push-in-loop-index.new.self.items ≡ kinds ++ Edge (edge_id c.args.b.0 i) ∷ [] = c.in_ok-push-2.ensures.items in
    let counted : c.len.result ≡ length kinds = omega arith in
    let new_flows : c.push.new.self.items ≡ c.loop-index.flows.items ++ record { target = c.edge-item.result.block.0; item = length kinds } ∷ [] =
    c.in_ok-push.ensures.items ∙ ap (λ n. c.loop-index.flows.items ++ record { target = c.edge-item.result.block.0; item = n } ∷ []) counted in
    let one : suc i ≡ i + 1 = omega arith in
    let P : List Item → Type 0 = λ v. Adds c.args.b.0 c.args.block.now c.args.kinds.now.items v in
    let Q : List Item → Type 0 = λ v. AreEdgesLaid v c.args.b.0 (take (i + 1) edges) c.push.new.self.items in
    let R : List EdgeFlow → Type 0 = λ v. AreEdgesLaid (kinds ++ Edge (edge_id c.args.b.0 i) ∷ []) c.args.b.0 (take (i + 1) edges) v in
    let S : ℕ → Type 0 = λ n. AreEdgesLaid (kinds ++ Edge (edge_id c.args.b.0 i) ∷ []) c.args.b.0 (take n edges)
    (c.loop-index.flows.items ++ record { target = c.edge-item.result.block.0; item = length kinds } ∷ []) in
    record {
      adds = subst P (sym new_kinds) (adds_push c.args.b.0 c.args.block.now c.args.kinds.now.items kinds (Edge (edge_id c.args.b.0 i)) c.loop-index.invariant.adds (refl, few));
      edges = subst Q (sym new_kinds) (subst R (sym new_flows) (subst S one laid));
      size = ap length new_flows ∙ length_push c.loop-index.flows.items (record { target = c.edge-item.result.block.0; item = length kinds }) ∙ ap (λ n. n + 1) size;
      same = same;
    }
