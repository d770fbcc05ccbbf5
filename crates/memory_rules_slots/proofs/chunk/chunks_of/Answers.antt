use Rattle.std.proofs.Common.{◌≡◌, ◌+◌, ◌-◌, ◌++◌, ◌∷◌, [], ℕ, List, All, take, drop, sym, ap, ap₂, ◌∙◌, subst, rules, arith}
use Rattle.std.proofs.Math.Seq.{take-add}
use Rattle.std.proofs.lemmas.Grind.{flat_map-append}
use Rattle.std.proofs.lemmas.List.{append-nil}
use Rattle.std.proofs.lemmas.List.Elements.{All-push}
use Rattle.sil_ast.specs.declared.place.ValueId.{ValueId}
use Rattle.memory_rules_slots.specs.inner.Chunks.{IsChunkOf, slots_in}
use Rattle.memory_rules_slots.specs.declared.chunk.Chunk.{Chunk}
use Rattle.memory_rules_slots.proofs.chunk.chunks_of.Goals as goal

one_more : (slots : List ValueId) (first count : ℕ) (chunks new : List Chunk) (c : Chunk) → new ≡ chunks ++ c ∷ [] → c.slots.items ≡ take (first + count - first) (drop first slots)
    → slots_in chunks ≡ take first slots → slots_in new ≡ take (first + count) slots
one_more slots first count chunks new c put is h =
    let size : first + count - first ≡ count = omega arith in
    ap slots_in put
    ∙ flat_map-append (λ (c : Chunk). c.slots.items) chunks (c ∷ [])
    ∙ ap₂ (λ (l m : List ValueId). l ++ m) h (append-nil c.slots.items ∙ is ∙ ap (λ n. take n (drop first slots)) size)
    ∙ sym (take-add first count slots)

pub loop-first-preserved : goal.loop-first-preserved
loop-first-preserved c = record {
  within = search rules;
  slots = one_more c.args.slots.now c.loop-first.first c.min-count.result c.loop-first.chunks.items c.push.new.self.items c.in_ok-chunk_of.field-0 c.in_ok-push.ensures.items
      c.in_ok-chunk_of.ensures.slots c.loop-first.invariant.slots;
  each = subst (λ (l : List Chunk). All (IsChunkOf c.args.accesses.now) l) (sym c.in_ok-push.ensures.items)
      (All-push (IsChunkOf c.args.accesses.now) c.loop-first.chunks.items c.in_ok-chunk_of.field-0 c.loop-first.invariant.each c.in_ok-chunk_of.ensures.chunk);
}
