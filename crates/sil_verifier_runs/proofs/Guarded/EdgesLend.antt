-- What an edge lends anew is guarded.
use Rattle.std.proofs.Common.{◌≡◌, ℕ, zero, suc, List, [], ◌∷◌, ◌++◌, map, refl, sym, ap, ◌∙◌, subst, Bool, true, false, cond, ◌⊎◌, inl, inr, ⊎_elim}
use Rattle.std.proofs.Common.{Option, Some, None, Ok}
use Rattle.std.specs.Prelude.{◌==◌, length, slice_get}
use Rattle.std.proofs.lemmas.Bool.{false≢true, true≢false}
use Rattle.std.proofs.lemmas.Option.{same_Some}
use Rattle.sil_cfg_items.specs.Items.{item_defined, item_taken, taken_in}
use Rattle.sil_cfg_items.specs.Roles.{by_row, conventions_in, roles_for, taken_as, taken_by, taken_each}
use Rattle.sil_cfg_items.specs.declared.taken.Taken.{Taken}
use Rattle.sil_cfg_items.specs.declared.taken.Treatment.{Treatment}
use Rattle.instruction_table.specs.Forms.{roles_of}
use Rattle.instruction_table.specs.declared.entries.Role.TheVariants as role
use Rattle.numbered_form.specs.Lists.{Each}
use Rattle.sil_ast.specs.declared.function.Function.{Function}
use Rattle.sil_ast.specs.declared.inst.Inst.{Inst}
use Rattle.sil_ast.specs.declared.module.Module.{Module}
use Rattle.sil_ast.specs.declared.operands.Operand.{Operand}
use Rattle.sil_ast.specs.declared.place.ObjectId.{ObjectId}
use Rattle.sil_ast.specs.declared.place.ValueId.{ValueId}
use Rattle.sil_cfg.specs.declared.item.Item.{Item}
use Rattle.sil_cfg.specs.declared.item.Item.TheVariants as item
use Rattle.sil_types_declarations.specs.TypeDefinitions.Declarations.{Declarations, declarations_of}
use Rattle.sil_types_declarations.specs.declared.type_definitions.kind.Kind.{Kind}
use Rattle.sil_types_declarations.specs.declared.type_definitions.kind.Kind.TheVariants as kind
use Rattle.holder_model_values.specs.RunValues.Memory.{Memory}
use Rattle.holder_model_values.specs.RunValues.Values.{Case, Full, Group, Int, Object, Value, references_of}
use Rattle.numbered_form.specs.ValueTables.FirstValue.{first_value, value_of}
use Rattle.sil_verifier_frames.specs.sil_verifier_trails.AcceptedTrails.inner.Bases.{IsBaseOf}
use Rattle.sil_verifier_frames.specs.ownership_kinds_origins.Facts.{facts_in}
use Rattle.sil_verifier_frames.specs.sil_verifier_values.inner.Known.{IsAcceptedBody, kind_at}
use Rattle.sil_verifier_frames.proofs.sil_verifier_values.Accepted.{typed}
use Rattle.sil_verifier_frames.specs.holder_model.Data.{AddressOf, Datum, FunctionOf, ValueOf, references_in}
use Rattle.sil_verifier_frames.specs.holder_model.Frames.{Entry, Lent, Operands}
use Rattle.sil_verifier_frames.specs.holder_model.Frames.{made_entry, operands_of}
use Rattle.sil_verifier_runs.specs.inner.Guarded.Guards.{AreLentGuarded, AreOfKinds, IsCurrent, IsNamed, Lending}
use Rattle.sil_verifier_runs.specs.inner.Guarded.Kept.{IsNewlyGuarded}
use Rattle.sil_verifier_runs.specs.inner.Guarded.Kept as kept
use Rattle.sil_verifier_runs.proofs.Guarded.RowTables as table
use Rattle.sil_verifier_runs.proofs.Guarded.Sources as sources
use Rattle.sil_verifier_runs.proofs.Guarded.Sources.{held, lends_it, value_lent}
use Rattle.std.specs.Prelude.{option_and_then, option_map}
use Rattle.std.specs.List.{AllZip}
use Rattle.instruction_table.specs.Forms.{ending_of}
use Rattle.instruction_table.specs.declared.entries.Ending.{Ending}
use Rattle.instruction_table.specs.declared.entries.Ending.TheVariants as ending
use Rattle.instruction_table.specs.declared.op.Op.{Op}
use Rattle.instruction_table.specs.declared.op.Op.TheVariants as op
use Rattle.sil_cfg_items.specs.Items.{arg_value, taken_along_in}
use Rattle.sil_cfg_items.specs.Parts.{args_behind, edge_at, terminator_of}
use Rattle.sil_cfg_items.specs.Roles.{consumed, taken_along}
use Rattle.sil_ast.specs.Blocks.{args_of}
use Rattle.sil_ast.specs.declared.function.BlockArg.{BlockArg}
use Rattle.sil_ast.specs.declared.inst.Edge.{Edge}
use Rattle.sil_ast.specs.declared.place.EdgeId.{EdgeId}
use Rattle.sil_verifier_frames.specs.sil_verifier_values.inner.Handed.{TakenBy, Takes, TakesOver}
use Rattle.sil_verifier_frames.specs.sil_verifier_values.inner.Handed as handed
use Rattle.sil_verifier_frames.proofs.sil_verifier_values.Branches.{taken_over}
use Rattle.sil_verifier_frames.proofs.sil_verifier_values.Switches.{switched}
use Rattle.sil_verifier_frames.proofs.sil_verifier_values.Switching.{only_switch}
use Rattle.sil_verifier_frames.specs.sil_types.Typing.SwitchRules.{has_wrong_cases_by, switches_wrongly}
use Rattle.sil_verifier_frames.proofs.holder_model_typing.RunTypingLaws.FunctionFacts.{TypedInst}
use Rattle.sil_verifier_frames.specs.holder_model.Edges.{carried_along, carried_by, first_value_of, is_default, payload_data, switched_data}
use Rattle.sil_verifier_runs.specs.inner.Guarded.EdgesLend.{AreEdgesGuarded}

slice_append : {A : Type 0} (xs ys : List A) (k : ℕ) (x : A) → slice_get (xs ++ ys) k ≡ Some x → (slice_get xs k ≡ Some x) ⊎ ((j : ℕ) × (slice_get ys j ≡ Some x))
slice_append [] ys k x e = inr (k, e)
slice_append (y ∷ xs) ys zero x e = inl e
slice_append (y ∷ xs) ys (suc k) x e = slice_append xs ys k x e

zip_second : {A B : Type 0} (R : A → B → Type 0) (xs : List A) (ys : List B) (k : ℕ) (y : B) → AllZip R xs ys → slice_get ys k ≡ Some y → (x : A) × R x y
zip_second R [] [] k y h e = cc
zip_second R [] (z ∷ ys) k y h e = absurd h
zip_second R (x ∷ xs) [] k y h e = cc
zip_second R (x ∷ xs) (z ∷ ys) zero y h e = (x, subst (R x) (same_Some z y e) h.0)
zip_second R (x ∷ xs) (z ∷ ys) (suc k) y h e = zip_second R xs ys k y h.1 e

arg_there : (args : List BlockArg) (k : ℕ) (v : ValueId) → slice_get (map arg_value args) k ≡ Some v → (x : BlockArg) × (slice_get args k ≡ Some x) × (x.value ≡ v)
arg_there [] k v e = cc
arg_there (x ∷ args) zero v e = (x, refl, same_Some x.value v e)
arg_there (x ∷ args) (suc k) v e = arg_there args k v e

one_branch : (o : Op) → ending_of o ≡ ending.OneBranch → o ≡ op.Br
one_branch op.Br e = refl
one_branch _ e = absurd (cc)

two_branches : (o : Op) → ending_of o ≡ ending.TwoBranches → o ≡ op.CondBr
two_branches op.CondBr e = refl
two_branches _ e = absurd (cc)

consumed_role : (os : List Operand) (k : ℕ) (t : Taken) → slice_get (map consumed os) k ≡ Some t → t.role ≡ role.Consumed
consumed_role [] k t e = cc
consumed_role (o ∷ os) zero t e = sym (ap (λ (u : Taken). u.role) (same_Some (consumed o) t e))
consumed_role (o ∷ os) (suc k) t e = consumed_role os k t e

taken_role : (os : List Operand) (ts : List Treatment) (k : ℕ) (t : Taken) → slice_get (taken_each os ts) k ≡ Some t → (r : Treatment) × (slice_get ts k ≡ Some r) × (t.role ≡ r.role)
taken_role [] ts k t e = cc
taken_role (o ∷ os) [] k t e = cc
taken_role (o ∷ os) (r ∷ ts) zero t e = (r, refl, sym (ap (λ (u : Taken). u.role) (same_Some (taken_as o r) t e)))
taken_role (o ∷ os) (r ∷ ts) (suc k) t e = taken_role os ts k t e

not_owned_too : (q : Kind) → q ≡ kind.Owned → q ≡ kind.Guaranteed → ⊥
not_owned_too q one other = cc

not_plain_too : (q : Kind) → q ≡ kind.Plain → q ≡ kind.Guaranteed → ⊥
not_plain_too q one other = cc

takes_no_guaranteed : (q r : Kind) → (q ≡ kind.Owned) ⊎ (q ≡ kind.Plain) → (q ≡ r) ⊎ ((q ≡ kind.Plain) × (r ≡ kind.Owned)) → r ≡ kind.Guaranteed → ⊥
takes_no_guaranteed q r may (inr taken) is = not_owned_too r taken.1 is
takes_no_guaranteed q r (inl owned) (inl same) is = not_owned_too q owned (same ∙ is)
takes_no_guaranteed q r (inr plain) (inl same) is = not_plain_too q plain (same ∙ is)

-- what is carried behind a switch names what is switched
switched_named : (e : Edge) (count : ℕ) (w : Value) (k : ℕ) (x : Datum) (o : ObjectId) → slice_get (switched_data e count w) k ≡ Some x → IsNamed o (references_in x) → IsNamed o (references_of w)
switched_named e count w k x o at named = by (is_default e) (count == 0) at
  where
    alone : (k : ℕ) (y : Value) → slice_get (ValueOf y ∷ []) k ≡ Some x → ValueOf y ≡ x
    alone zero y h = same_Some (ValueOf y) x h
    alone (suc k) y h = cc

    payload : (w : Value) → slice_get (payload_data w) k ≡ Some x → IsNamed o (references_of w)
    payload (Int z) h = cc
    payload (Object p) h = cc
    payload (Group members) h = cc
    payload (Case j) h = cc
    payload (Full j y) h = subst (λ (z : Datum). IsNamed o (references_in z)) (sym (alone k y h)) named

    by : (a b : Bool) → slice_get (cond a (cond b [] (ValueOf w ∷ [])) (payload_data w)) k ≡ Some x → IsNamed o (references_of w)
    by true true h = cc
    by true false h = subst (λ (z : Datum). IsNamed o (references_in z)) (sym (alone k w h)) named
    by false b h = payload w h

first_given : (xs : List Datum) (w : Value) → first_value_of xs ≡ Some w → slice_get xs 0 ≡ Some (ValueOf w)
first_given [] w e = cc
first_given (ValueOf y ∷ xs) w e = ap (λ (z : Value). Some (ValueOf z)) (same_Some y w e)
first_given (AddressOf p ∷ xs) w e = cc
first_given (FunctionOf g ∷ xs) w e = cc

map_through : {A B : Type 0} (g : A → B) (o : Option A) (y : B) → option_map g o ≡ Some y → (z : A) × (o ≡ Some z) × (g z ≡ y)
map_through g None y e = cc
map_through g (Some z) y e = (z, refl, same_Some (g z) y e)

module _ (m : Module) (n : ℕ) (f : Function) (a : IsAcceptedBody m n f) (e : EdgeId) (i : Inst) (x : Edge) (there : terminator_of f e.block.0 ≡ Some i) (edge : edge_at f e ≡ Some x)
    (lending lending' : Lending) (memory : Memory) (entries : List Entry) (t : List Item) (ops : Operands) (carried : List Datum)
    (ops_are : operands_of (facts_in (declarations_of m) f) memory entries (item_taken f (item.Edge e)) ≡ Ok ops) (carries : carried_along f e ops.given ≡ Some carried)
    (kinds : AreOfKinds (declarations_of m) f entries) (lent : AreLentGuarded (declarations_of m) f lending memory ops.left t)
    (current : Each (λ (y : Taken). IsCurrent (declarations_of m) f lending memory entries t y.value) (item_taken f (item.Edge e))) where
  abbrev d : Declarations
  d = declarations_of m

  abbrev ts : List Taken
  ts = taken_by i ++ taken_along x

  taken_is : item_taken f (item.Edge e) ≡ ts
  taken_is = ap (λ o. taken_in o ++ taken_along_in (edge_at f e)) there ∙ ap (λ o. taken_by i ++ taken_along_in o) edge

  carried_is : carried_by (ending_of i.op) f e x ops.given ≡ Some carried
  carried_is =
      sym (ap (λ o. option_and_then (λ (j : Inst). option_and_then (λ taken. carried_by (ending_of j.op) f e taken ops.given) (edge_at f e)) o) there
      ∙ ap (λ o. option_and_then (λ taken. carried_by (ending_of i.op) f e taken ops.given) o) edge) ∙ carries

  -- no operand of a switch ends a scope
  no_scopes : i.op ≡ op.SwitchEnum → (k : ℕ) (y : Taken) → slice_get ts k ≡ Some y → table.is_scope_role y.role ≡ true → ⊥
  no_scopes switches k y at scope = ⊎_elim
      (λ here.
      let r = taken_role i.operands (roles_for (roles_of i.op) (conventions_in i) (length i.operands)) k y here in
      let has = table.role_of_row (roles_of i.op) (conventions_in i) (length i.operands) k r.0 r.1 (ap table.is_scope_role (sym r.2) ∙ scope) in
      false≢true (sym (ap (λ o. table.has_scope_role (roles_of o)) switches) ∙ has))
      (λ later. false≢true (sym (ap table.is_scope_role (consumed_role x.args later.0 y later.1)) ∙ scope))
      (slice_append (taken_by i) (taken_along x) k y at)

  -- a switch has an operand
  has_operand : ending_of i.op ≡ ending.Cases → first_value i ≡ None → ⊥
  has_operand switches none =
      let end = (typed m n f a).ends e.block.0 i there in
      let known : TypedInst m f i = (typed m n f a).insts e.block.0 end.0 i end.2 in
      let right : has_wrong_cases_by op.SwitchEnum d f i ≡ false = ap (λ o. has_wrong_cases_by o d f i) (sym (only_switch i.op switches)) ∙ known.cases in
      at (slice_get i.operands 0) none right
    where
      at : (o : Option Operand) → option_map value_of o ≡ None → switches_wrongly d f i.edges (option_and_then (λ y. y.ty) o) ≡ false → ⊥
      at None e h = true≢false h
      at (Some y) e h = cc

  -- the first operand is taken first
  first_taken : i.op ≡ op.SwitchEnum → (w : ValueId) → first_value i ≡ Some w → (y : Taken) → slice_get ts 0 ≡ Some y → y.value ≡ w
  first_taken switches w first y at = by i.operands refl first
    where
      by : (os : List Operand) → i.operands ≡ os → option_map value_of (slice_get os 0) ≡ Some w → y.value ≡ w
      by [] is h = cc
      by (o ∷ os) is h =
          let row : taken_by i ≡ taken_each (o ∷ os) (roles_for (role.Forwarded ∷ []) (conventions_in i) (suc (length os))) =
          ap (λ zs. taken_each zs (roles_for (roles_of i.op) (conventions_in i) (length zs))) is
          ∙ ap (λ p. taken_each (o ∷ os) (roles_for (roles_of p) (conventions_in i) (suc (length os)))) switches in
          let here : Some (taken_as o (by_row role.Forwarded)) ≡ Some y = sym (ap (λ zs. slice_get (zs ++ taken_along x) 0) row) ∙ at in
          sym (ap (λ (u : Taken). u.value) (same_Some (taken_as o (by_row role.Forwarded)) y here)) ∙ same_Some o.value w h

  module _ (k : ℕ) (v : ValueId) (y : Datum) (o : ObjectId) (arg : slice_get (item_defined f (item.Edge e)) k ≡ Some v) (given_it : slice_get carried k ≡ Some y)
      (guaranteed : kind_at d f v ≡ kind.Guaranteed) (named : IsNamed o (references_in y)) where
    abbrev Newly : Type 0
    Newly = IsNewlyGuarded d f lending lending' memory memory ops.left o v

    the_arg : (b : BlockArg) × (slice_get (args_of f x.block.0) k ≡ Some b) × (b.value ≡ v)
    the_arg = arg_there (args_of f x.block.0) k v (sym (ap (λ o. slice_get (map arg_value (args_behind f o)) k) edge) ∙ arg)

    -- a branch hands over no Guaranteed value
    branched : (i.op ≡ op.Br) ⊎ (i.op ≡ op.CondBr) → Newly
    branched branch =
        let z = zip_second (TakesOver d f) x.args (args_of f x.block.0) k the_arg.0 (taken_over m n f a e i x there edge branch) the_arg.1 in
        absurd (takes_no_guaranteed (kind_at d f z.0.value) (kind_at d f the_arg.0.value) z.1.ends z.1.becomes (ap (kind_at d f) the_arg.2 ∙ guaranteed))

    by_args : (w : ValueId) (args : List BlockArg) → TakenBy d f w x args → slice_get args k ≡ Some the_arg.0 → Takes d f w the_arg.0
    by_args w [] h at = cc
    by_args w (b ∷ []) h at = by k at
      where
        by : (j : ℕ) → slice_get (b ∷ []) j ≡ Some the_arg.0 → Takes d f w the_arg.0
        by zero at = subst (Takes d f w) (same_Some b the_arg.0 at) h
        by (suc j) at = cc
    by_args w (b ∷ c ∷ args) h at = absurd h

    -- a switch lends what it switches on
    lends_switched : i.op ≡ op.SwitchEnum → (w : ValueId) → first_value i ≡ Some w → (u : Value) → slice_get ops.given 0 ≡ Some (ValueOf u) → IsNamed o (references_of u) → Takes d f w the_arg.0
        → Newly
    lends_switched switches w first u given names (handed.owns may owned) = absurd (not_owned_too (kind_at d f the_arg.0.value) owned (ap (kind_at d f) the_arg.2 ∙ guaranteed))
    lends_switched switches w first u given names (handed.trivial is plain) = absurd (not_plain_too (kind_at d f the_arg.0.value) plain (ap (kind_at d f) the_arg.2 ∙ guaranteed))
    lends_switched switches w first u given names (handed.lends lent_kind arg_kind bases) =
        by_form (sources.form_of m n f a (item.Edge e) ts taken_is lending memory entries t ops ops_are kinds lent current o
        found.source.taken.value (ValueOf u) found.source.entry found.source.named)
      where
        found : sources.IsFound m n f a (item.Edge e) ts taken_is lending memory entries t ops ops_are kinds lent current o 0 (ValueOf u)
        found = sources.found_at m n f a (item.Edge e) ts taken_is lending memory entries t ops ops_are kinds lent current o 0 (ValueOf u) given names

        is_first : found.source.taken.value ≡ w
        is_first = first_taken switches w first found.source.taken found.taken_there

        source_kind : kind_at d f found.source.taken.value ≡ kind.Guaranteed
        source_kind = ap (kind_at d f) is_first ∙ lent_kind

        by_form : sources.Form m n f a (item.Edge e) ts taken_is lending memory entries t ops ops_are kinds lent current found.source.taken.value (ValueOf u) → Newly
        by_form (held h owned) = absurd (not_owned_too (kind_at d f found.source.taken.value) owned source_kind)
        by_form (lends_it h not_owned value) =
            let g = sources.lent_guarded m n f a (item.Edge e) ts taken_is lending memory entries t ops ops_are kinds lent current (no_scopes switches) o (ValueOf u) found.source h not_owned in
            kept.by_base g.base
            (subst (λ (z : ValueId). IsBaseOf d f g.base z) the_arg.2 (bases g.base (subst (λ (z : ValueId). IsBaseOf d f g.base z) is_first g.is_base)))
            g.guard

    by_ending : (q : Ending) → ending_of i.op ≡ q → carried_by q f e x ops.given ≡ Some carried → Newly
    by_ending ending.Inside is h = cc
    by_ending ending.OneBranch is h = branched (inl (one_branch i.op is))
    by_ending ending.TwoBranches is h = branched (inr (two_branches i.op is))
    by_ending ending.Return is h = cc
    by_ending ending.Unreachable is h = cc
    by_ending ending.Cases is h = by_first (first_value i) refl
      where
        switched_value : (u : Value) × (first_value_of ops.given ≡ Some u) × (switched_data x (length (args_behind f (Some x))) u ≡ carried)
        switched_value = map_through (switched_data x (length (args_behind f (Some x)))) (first_value_of ops.given) carried h

        by_first : (w : Option ValueId) → first_value i ≡ w → Newly
        by_first None first = absurd (has_operand is first)
        by_first (Some w) first =
            lends_switched (only_switch i.op is) w first switched_value.0 (first_given ops.given switched_value.0 switched_value.1)
            (switched_named x (length (args_behind f (Some x))) switched_value.0 k y o (ap (λ zs. slice_get zs k) switched_value.2 ∙ given_it) named)
            (by_args w (args_of f x.block.0) (switched m n f a e i x w there edge (only_switch i.op is) first) the_arg.1)

pub edges_guarded : AreEdgesGuarded
edges_guarded m n f a e i x there edge lending lending' memory entries t ops carried ops_are carries kinds lent current values k v y o arg given_it made named =
    let z = values k y given_it in
    let guaranteed = value_lent (kind_at (declarations_of m) f v) z.0 y (subst (λ (u : Datum). made_entry (kind_at (declarations_of m) f v) u ≡ Ok (Lent y)) z.1 made) in
    by_ending m n f a e i x there edge lending lending' memory entries t ops carried ops_are carries kinds lent current k v y o arg given_it guaranteed named (ending_of i.op) refl
    (carried_is m n f a e i x there edge lending lending' memory entries t ops carried ops_are carries kinds lent current)
