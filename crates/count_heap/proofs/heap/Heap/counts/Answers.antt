use Rattle.std.proofs.Common.{sym, ap, ◌∙◌}
use Rattle.weak_unowned.specs.declared.side.Side.{Side}
use Rattle.count_heap.specs.HeapModel.HeapViews as views
use Rattle.count_heap.specs.HeapModel.HeapViews.{HeapView}
use Rattle.count_heap.proofs.Calls.{named_is, no_object_seen, none_named, object_seen}
use Rattle.count_heap.proofs.heap.Heap.counts.Goals as goal

pub returns-in-Some-clause-unowned : goal.returns-in-Some-clause-unowned
returns-in-Some-clause-unowned c =
    let d = c.self.inside.layouts in
    let t = c.self.inside.numbers in
    let records = c.self.inside.records.items in
    let sides = c.self.inside.sides in
    let pieces = c.self.inside.pool in
    let a = c.self.inside.retains in
    let b = c.self.inside.releases in
    let s = c.in-Some.slot in
    let is = sym c.find.ensures ∙ c.in-Some.is in
    ap (λ (x : Side). x.unowned) c.counts.ensures ∙ sym (ap views.unowned_told (object_seen d t records sides pieces a b c.args.o s is))
    ∙ ap (λ (v : HeapView). views.unowned_in v c.args.o) c.self.view_is

pub returns-in-None-clause-unowned : goal.returns-in-None-clause-unowned
returns-in-None-clause-unowned c =
    let d = c.self.inside.layouts in
    let t = c.self.inside.numbers in
    let records = c.self.inside.records.items in
    let sides = c.self.inside.sides in
    let pieces = c.self.inside.pool in
    let a = c.self.inside.retains in
    let b = c.self.inside.releases in
    let is = sym c.find.ensures ∙ c.in-None.is in
    sym (ap views.unowned_told (no_object_seen d t records sides pieces a b c.args.o is)) ∙ ap (λ (v : HeapView). views.unowned_in v c.args.o) c.self.view_is

pub returns-in-Some-clause-weak : goal.returns-in-Some-clause-weak
returns-in-Some-clause-weak c =
    let d = c.self.inside.layouts in
    let t = c.self.inside.numbers in
    let records = c.self.inside.records.items in
    let sides = c.self.inside.sides in
    let pieces = c.self.inside.pool in
    let a = c.self.inside.retains in
    let b = c.self.inside.releases in
    let s = c.in-Some.slot in
    let is = sym c.find.ensures ∙ c.in-Some.is in
    ap (λ (x : Side). x.weak) c.counts.ensures ∙ sym (ap views.weak_told (object_seen d t records sides pieces a b c.args.o s is)) ∙ ap (λ (v : HeapView). views.weak_in v c.args.o) c.self.view_is

pub returns-in-None-clause-weak : goal.returns-in-None-clause-weak
returns-in-None-clause-weak c =
    let d = c.self.inside.layouts in
    let t = c.self.inside.numbers in
    let records = c.self.inside.records.items in
    let sides = c.self.inside.sides in
    let pieces = c.self.inside.pool in
    let a = c.self.inside.retains in
    let b = c.self.inside.releases in
    let is = sym c.find.ensures ∙ c.in-None.is in
    sym (ap views.weak_told (no_object_seen d t records sides pieces a b c.args.o is)) ∙ ap (λ (v : HeapView). views.weak_in v c.args.o) c.self.view_is

pub returns-in-Some-clause-unfreed : goal.returns-in-Some-clause-unfreed
returns-in-Some-clause-unfreed c =
    let d = c.self.inside.layouts in
    let t = c.self.inside.numbers in
    let records = c.self.inside.records.items in
    let sides = c.self.inside.sides in
    let pieces = c.self.inside.pool in
    let a = c.self.inside.retains in
    let b = c.self.inside.releases in
    let s = c.in-Some.slot in
    let is = sym c.find.ensures ∙ c.in-Some.is in
    sym (ap (λ (v : HeapView). views.is_unfreed v c.args.o) c.self.view_is)
    ∙ named_is d t records sides pieces c.self.invariant a b c.args.o s is ∙ ap (λ (v : HeapView). views.is_named_or_alive v c.args.o) c.self.view_is

pub returns-in-None-clause-unfreed : goal.returns-in-None-clause-unfreed
returns-in-None-clause-unfreed c =
    let d = c.self.inside.layouts in
    let t = c.self.inside.numbers in
    let records = c.self.inside.records.items in
    let sides = c.self.inside.sides in
    let pieces = c.self.inside.pool in
    let a = c.self.inside.retains in
    let b = c.self.inside.releases in
    let is = sym c.find.ensures ∙ c.in-None.is in
    sym (ap (λ (v : HeapView). views.is_unfreed v c.args.o) c.self.view_is)
    ∙ none_named d t records sides pieces c.self.invariant a b c.args.o is ∙ ap (λ (v : HeapView). views.is_named_or_alive v c.args.o) c.self.view_is
