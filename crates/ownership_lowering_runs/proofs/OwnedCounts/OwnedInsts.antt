-- Each instruction of an accepted function has what its row needs: row by row, by the kinds of its operands and of its results.
use Rattle.std.proofs.Common.{◌≡◌, ◌⊎◌, inl, inr, List, [], ◌∷◌, ◌++◌, map, append-nil, refl, sym, ap, ◌∙◌, subst, Bool, true, false, cond, ◌&&◌, ◌||◌, Option}
use Rattle.std.specs.List.{AllZip, list_any}
use Rattle.std.proofs.lemmas.Bool.{and_parts}
use Rattle.instruction_table.specs.Forms.{result_kind_of, roles_of}
use Rattle.instruction_table.specs.Forms as table
use Rattle.instruction_table.specs.declared.entries.ResultKind.TheVariants.{AddressResult, ForwardedResult, OwnedResult, ScopeResult}
use Rattle.instruction_table.specs.declared.entries.Role.{Role}
use Rattle.instruction_table.specs.declared.entries.Role.TheVariants as role
use Rattle.numbered_form.specs.Lists.{Each}
use Rattle.sil_ast.specs.declared.function.Function.{Function}
use Rattle.sil_ast.specs.declared.inst.Inst.{Inst}
use Rattle.sil_ast.specs.declared.module.Module.{Module}
use Rattle.sil_ast.specs.declared.place.FuncId.{FuncId}
use Rattle.sil_ast.specs.declared.place.PointId.{PointId}
use Rattle.sil_ast.specs.declared.place.ValueId.{ValueId}
use Rattle.sil_cfg.specs.declared.item.Item.TheVariants as item
use Rattle.sil_cfg_items.specs.Items.{item_defined, item_taken, taken_in}
use Rattle.sil_cfg_items.specs.Roles.{conventions_in, taken_by}
use Rattle.sil_cfg_items.specs.declared.taken.Taken.{Taken}
use Rattle.ownership_kinds_chains.specs.OwnershipChains.Facts as chains
use Rattle.ownership_kinds_chains.specs.OwnershipChains.Facts.{forwarded}
use Rattle.ownership_kinds_chains.specs.declared.ownership_chains.facts.Facts.{Facts}
use Rattle.ownership_kinds_chains.specs.OwnershipMarks.Marks.{ends_owned}
use Rattle.sil_types_declarations.specs.TypeDefinitions.Declarations.{Declarations, declarations_of}
use Rattle.sil_types_declarations.specs.declared.type_definitions.kind.Kind.{Kind}
use Rattle.sil_types_declarations.specs.declared.type_definitions.kind.Kind.TheVariants as kind
use Rattle.holder_model_values.specs.RunValues.Memory.{Memory}
use Rattle.sil_verifier_runs.specs.ownership_kinds_origins.Facts.{facts_in}
use Rattle.sil_types.specs.Typing.FormRules.{may_stand_owned}
use Rattle.sil_verifier_runs.specs.sil_verifier_values.inner.Known.{facts_at, kind_at, type_in}
use Rattle.sil_verifier_runs.specs.sil_verifier_values.inner.Operands.{Forwards, MayEnd, MayLend, SuitsRole, kind_by_row, kind_together}
use Rattle.ownership_lowering_laws.specs.ownership_kinds.Statics.{forwards_by}
use Rattle.ownership_lowering_laws.specs.holder_model_typing.OwnedRunTyping.inner.OwnedTyped.{OwnedInst}
use Rattle.sil_verifier_runs.specs.ownership_kinds_origins.Origins.{is_trivial_or_untyped}
use Rattle.sil_verifier_runs.specs.holder_model.RunTyping.EndForms.{value_in}
use Rattle.sil_verifier_runs.specs.holder_model.RunTyping.Forms.{forms_of}
use Rattle.sil_verifier_runs.specs.holder_model.LoweredRun.LowStepParts.{taken_value}
use Rattle.sil_verifier_runs.proofs.sil_verifier_values.Accepted.{in_ownership_form, well_typed}
use Rattle.sil_verifier_runs.proofs.sil_verifier_values.Suited.{forwarded_kinds, results_of_kinds, suited}
use Rattle.numbered_form.proofs.Lists.{contained}
use Rattle.ownership_lowering_laws.proofs.holder_model_typing.RunTypingLaws.Declared.{each_from}
use Rattle.ownership_lowering_laws.proofs.holder_model_typing.RunTypingLaws.Rows.Known.{Known, in_owned, known}
use Rattle.ownership_lowering_laws.proofs.holder_model_typing.RunTypingLaws.Rows.Points.{is_at}
use Rattle.sil_verifier_runs.specs.holder_model.Data.{Datum}
use Rattle.sil_verifier_runs.specs.holder_model.Effects as effects
use Rattle.sil_verifier_runs.specs.holder_model.Effects.{Change, effect_of}
use Rattle.sil_verifier_runs.specs.holder_model.Frames.{Entry, Operands}
use Rattle.sil_verifier_runs.specs.holder_model.ModuleShapes.{shapes_in, shapes_of}
use Rattle.sil_verifier_runs.specs.holder_model.declared.row_effect.RowEffect.{RowEffect}
use Rattle.sil_verifier_runs.specs.holder_model_laws.StoredCounts.inner.Rows.{BringsAll, BringsNone, HandsOn, TakesAll, TakesNone}
use Rattle.ownership_lowering_laws.specs.holder_model_typing.TypedMemory.inner.Worlds.{World}
use Rattle.sil_verifier_runs.proofs.sil_verifier_frames.Typed.Data.{DataAre}
use Rattle.sil_verifier_runs.proofs.sil_verifier_frames.Typed.Effects.{Changed, EffectFits}
use Rattle.sil_verifier_runs.proofs.sil_verifier_frames.Typed.Entries.{fit_data, operands_fit}
use Rattle.sil_verifier_runs.proofs.sil_verifier_frames.Typed.GoesOn.{typed_module}
use Rattle.sil_verifier_runs.proofs.sil_verifier_frames.Typed.Performs.{defines_results}
use Rattle.sil_verifier_runs.proofs.sil_verifier_frames.Typed.RowForms.{row_fits}
use Rattle.sil_verifier_runs.proofs.sil_verifier_frames.Typed.ShapesTold.{result_told}
use Rattle.ownership_lowering_runs.specs.OwnedCounts.inner.OwnedRows.{IsDone}
use Rattle.ownership_lowering_runs.proofs.OwnedCounts.BroughtOwned.{brings_all, brings_none}
use Rattle.ownership_lowering_runs.proofs.OwnedCounts.GivenOwned.{given_as}
use Rattle.ownership_lowering_runs.proofs.OwnedCounts.RowTables.{all_roles, consumed_role, each_role, forwarded_is, forwarded_role, is_consumed_role, is_forwarded, is_forwarded_role}
use Rattle.ownership_lowering_runs.proofs.OwnedCounts.RowTables.{is_lent, is_lent_role, lent_is, lent_role, row_suits, stays, staying_role, suits}
use Rattle.ownership_lowering_runs.proofs.OwnedCounts.ValueForms.{asks_values, forms_in, forms_out, gives_values, values_of_forms}
use Rattle.ownership_lowering_runs.proofs.OwnedCounts.Taken.{IsTakenAs, kind_in}
use Rattle.ownership_lowering_runs.proofs.OwnedCounts.TakenOwned.{GivesUp, IsValue, MayEndBy, takes_all, takes_none}

pub each_weaker : {A : Type 0} (P Q : A → Type 0) → ((x : A) → P x → Q x) → (xs : List A) → Each P xs → Each Q xs
each_weaker P Q h [] e = tt
each_weaker P Q h (x ∷ xs) e = (h x e.0, each_weaker P Q h xs e.1)

each_mapped : {A B : Type 0} (P : B → Type 0) (g : A → B) (xs : List A) → Each P (map g xs) → Each (λ x. P (g x)) xs
each_mapped P g [] e = tt
each_mapped P g (x ∷ xs) e = (e.0, each_mapped P g xs e.1)

-- ---- an instruction

module _ (m : Module) (g : FuncId) (f : Function) (w : World) (memory : Memory) (entries : List Entry) (p : PointId) (i : Inst) (ops : Operands) (c : Change)
    (done : IsDone m g f w memory entries p i ops c) where
  abbrev pub d : Declarations
  d = declarations_of m

  abbrev pub facts : ValueId → Option Facts
  facts = facts_in d f

  abbrev pub ts : List Taken
  ts = item_taken f (item.Inst p)

  abbrev pub vs : List ValueId
  vs = item_defined f (item.Inst p)

  abbrev pub xs : List Datum
  xs = ops.given

  pub known_inst : Known m f i i.op
  known_inst = known m (well_typed m done.accepted.verified) g.0 f done.accepted.body.there p i done.here

  pub owned_form : may_stand_owned (table.forms_of i.op) ≡ true
  owned_form = in_owned m f i i.op known_inst (in_ownership_form m g.0 f done.accepted)

  pub table_says : (e : RowEffect) → effect_of i.op ≡ e → suits e i.op ≡ true
  table_says e is = row_suits i.op e is known_inst.inside owned_form

  pub inst : OwnedInst m f p i
  inst = ((typed_module m done.accepted.verified).functions g.0 f done.accepted.body.there).insts p i done.here

  pub taken_is : ts ≡ taken_by i
  taken_is = ap (λ o. taken_in o ++ []) done.here ∙ append-nil (taken_by i)

  pub given : AllZip (IsTakenAs facts entries) ts xs
  given = given_as m w f entries done.entries_are memory ts ops (((typed_module m done.accepted.verified).functions g.0 f done.accepted.body.there).items (item.Inst p)).taken done.found

  -- ---- roles and kinds of operands

  roles : (test : Role → Bool) → test role.ByParameter ≡ false → all_roles test (roles_of i.op) ≡ true → Each (λ (t : Taken). test t.role ≡ true) ts
  roles test never all = subst (Each (λ (t : Taken). test t.role ≡ true)) (sym taken_is) (each_role test never (roles_of i.op) (conventions_in i) i.operands all)

  pub none_taken : all_roles stays (roles_of i.op) ≡ true → TakesNone facts entries ts vs xs
  none_taken all = takes_none facts entries vs ts xs given (each_weaker _ _ (λ t e. inl (staying_role t.role e)) ts (roles stays refl all))

  each_kind : (P : ValueId → Type 0) → Each P (map value_in i.operands) → Each (λ (t : Taken). P t.value) ts
  each_kind P h = each_mapped P taken_value ts (subst (Each P) (sym inst.takes) h)

  gives_up : (test : Role → Bool) → test role.ByParameter ≡ false → ((r : Role) → test r ≡ true → ends_owned r ≡ true) → all_roles test (roles_of i.op) ≡ true
      → Each (λ (t : Taken). MayEndBy (kind_in facts entries t.value)) ts → Each IsValue xs → TakesAll facts entries ts vs xs
  gives_up test never ends_by all may are = takes_all facts entries vs ts xs given (both ts (roles test never all) may) are
    where
      both : (us : List Taken) → Each (λ (t : Taken). test t.role ≡ true) us → Each (λ (t : Taken). MayEndBy (kind_in facts entries t.value)) us
          → Each (GivesUp facts entries) us
      both [] a b = tt
      both (u ∷ us) a b = (record { role = ends_by u.role a.0; may = b.0 }, both us a.1 b.1)

  -- ---- kinds of results

  result_kinds : (P : Kind → Type 0) → P kind.Plain → P (kind_by_row (result_kind_of i.op) (kind_together d f i)) → Each (λ v. P (kind_at d f v)) vs
  result_kinds P plain other =
      subst (Each (λ v. P (kind_at d f v))) (sym (defines_results f p i done.here))
      (each_from (λ v. P (kind_at d f v)) i.results (λ k v at.
      subst P (sym (results_of_kinds m g.0 f done.accepted p.block.0 p.index k i v (is_at f p i done.here) at)) (either (is_trivial_or_untyped d (type_in d f v)))))
    where
      either : (b : Bool) → P (cond b kind.Plain (kind_by_row (result_kind_of i.op) (kind_together d f i)))
      either true = plain
      either false = other

  none_brought : (kind_by_row (result_kind_of i.op) (kind_together d f i) ≡ kind.Owned → ⊥) → BringsNone facts entries ts vs xs c.results
  none_brought never = brings_none facts entries ts vs xs c.results (result_kinds (λ k. k ≡ kind.Owned → ⊥) (λ e. cc) never)

  all_brought : MayEndBy (kind_by_row (result_kind_of i.op) (kind_together d f i)) → Each IsValue c.results → BringsAll facts entries ts vs xs c.results
  all_brought may are = brings_all facts entries ts vs xs c.results ops.left done.behind done.put (result_kinds MayEndBy (inr refl) may) are

  pub owned_brought : result_kind_of i.op ≡ OwnedResult → Each IsValue c.results → BringsAll facts entries ts vs xs c.results
  owned_brought is are = all_brought (inl (ap (λ r. kind_by_row r (kind_together d f i)) is)) are

  pub scope_brought : result_kind_of i.op ≡ ScopeResult → BringsNone facts entries ts vs xs c.results
  scope_brought is = none_brought (λ e. let two : kind.Guaranteed ≡ kind.Owned = sym (ap (λ r. kind_by_row r (kind_together d f i)) is) ∙ e in cc)

  pub address_brought : result_kind_of i.op ≡ AddressResult → BringsNone facts entries ts vs xs c.results
  address_brought is = none_brought (λ e. let two : kind.Plain ≡ kind.Owned = sym (ap (λ r. kind_by_row r (kind_together d f i)) is) ∙ e in cc)

  -- ---- data

  pub operands_typed : DataAre m w (forms_of d f (map value_in i.operands)) xs
  operands_typed =
      let fits = operands_fit m w f facts memory ts entries ops done.entries_are
      (((typed_module m done.accepted.verified).functions g.0 f done.accepted.body.there).items (item.Inst p)).taken done.found in
      subst (λ us. DataAre m w (forms_of d f us) xs) inst.takes (fit_data m w f fits.0)

  pub values_given : asks_values (effect_of i.op) ≡ true → Each IsValue xs
  values_given asks = values_of_forms m w _ xs operands_typed (forms_in m i _ _ inst.row asks)

  change_fits : EffectFits m w i.op xs (forms_of d f i.results) (effects.Makes c)
  change_fits = subst (EffectFits m w i.op xs (forms_of d f i.results)) done.makes
      (row_fits (record { w = w; of = done.of; memory = memory; typed = done.typed; values = shapes_in (shapes_of m) g; i = i })
      (typed_module m done.accepted.verified).classes inst.row operands_typed (result_told m g f done.accepted.body.there memory i))

  changed_by : EffectFits m w i.op xs (forms_of d f i.results) (effects.Makes c) → Changed m w (forms_of d f i.results) c
  changed_by (EffectFits.makes _ changed keeps) = changed

  pub results_typed : Changed m w (forms_of d f i.results) c
  results_typed = changed_by change_fits

  pub values_brought : gives_values (effect_of i.op) ≡ true → Each IsValue c.results
  values_brought gives =
      let changed = results_typed in
      values_of_forms m changed.later _ c.results changed.results (forms_out m i _ _ inst.row gives)

  -- ---- rows that hand on

  -- where all operands are forwarded
  forwards_on : all_roles is_forwarded_role (roles_of i.op) ≡ true → result_kind_of i.op ≡ ForwardedResult → Each IsValue xs → Each IsValue c.results → HandsOn facts entries ts vs xs c.results
  forwards_on all is are rs =
      at (kind_together d f i) refl (forwarded_kinds m g.0 f done.accepted p.block.0 p.index i (is_at f p i done.here) (ap forwards_by is))
    where
      by_row : (k : Kind) → kind_together d f i ≡ k → kind_by_row (result_kind_of i.op) (kind_together d f i) ≡ k
      by_row k e = ap (λ r. kind_by_row r (kind_together d f i)) is ∙ e

      ends_it : (r : Role) → is_forwarded_role r ≡ true → ends_owned r ≡ true
      ends_it r e = ap ends_owned (forwarded_role r e)

      at : (k : Kind) → kind_together d f i ≡ k → Forwards d f k (map value_in i.operands) → HandsOn facts entries ts vs xs c.results
      at kind.Owned e h =
          HandsOn.all (gives_up is_forwarded_role refl ends_it all (each_kind (λ v. MayEnd d f v) h) are)
          (all_brought (inl (by_row kind.Owned e)) rs)
      at kind.Guaranteed e h =
          HandsOn.none (takes_none facts entries vs ts xs given (each_weaker _ _ (λ t l. inr (lends t l)) ts (each_kind (λ v. MayLend d f v) h)))
          (none_brought (λ o. let two : kind.Guaranteed ≡ kind.Owned = sym (by_row kind.Guaranteed e) ∙ o in cc))
        where
          lends : (t : Taken) → MayLend d f t.value → kind_at d f t.value ≡ kind.Owned → ⊥
          lends t (inl g) o = let two : kind.Guaranteed ≡ kind.Owned = sym g ∙ o in cc
          lends t (inr g) o = let two : kind.Plain ≡ kind.Owned = sym g ∙ o in cc
      at kind.Plain e h =
          HandsOn.none (takes_none facts entries vs ts xs given (each_weaker _ _ (λ t l. inr (plain t l)) ts (each_kind (λ v. kind_at d f v ≡ kind.Plain) h)))
          (none_brought (λ o. let two : kind.Plain ≡ kind.Owned = sym (by_row kind.Plain e) ∙ o in cc))
        where
          plain : (t : Taken) → kind_at d f t.value ≡ kind.Plain → kind_at d f t.value ≡ kind.Owned → ⊥
          plain t g o = let two : kind.Plain ≡ kind.Owned = sym g ∙ o in cc

  pub hands_forward : (all_roles is_forwarded_role (roles_of i.op) && is_forwarded (result_kind_of i.op)) ≡ true → Each IsValue xs → Each IsValue c.results
      → HandsOn facts entries ts vs xs c.results
  hands_forward so are rs =
      let parts = and_parts (all_roles is_forwarded_role (roles_of i.op)) (is_forwarded (result_kind_of i.op)) so in
      forwards_on parts.0 (forwarded_is (result_kind_of i.op) parts.1) are rs

  -- each operand is of a kind that its role takes
  pub suited_each : Each (λ (t : Taken). SuitsRole d f t.role t.value) ts
  suited_each = each_from (λ (t : Taken). SuitsRole d f t.role t.value) ts (λ k t at. suited m g.0 f done.accepted (item.Inst p) t (contained ts k t at))

  pub consumed_all : all_roles is_consumed_role (roles_of i.op) ≡ true → Each IsValue xs → TakesAll facts entries ts vs xs
  consumed_all all are =
      gives_up is_consumed_role refl (λ r e. ap ends_owned (consumed_role r e)) all (both ts (roles is_consumed_role refl all) suited_each) are
    where
      both : (us : List Taken) → Each (λ (t : Taken). is_consumed_role t.role ≡ true) us → Each (λ (t : Taken). SuitsRole d f t.role t.value) us
          → Each (λ (t : Taken). MayEndBy (kind_in facts entries t.value)) us
      both [] a b = tt
      both (u ∷ us) a b = (subst (λ r. SuitsRole d f r u.value) (consumed_role u.role a.0) b.0, both us a.1 b.1)

  -- what a part is taken of stays, and so does the part's owner
  pub lent_rows : (all_roles is_lent_role (roles_of i.op) && is_lent (result_kind_of i.op)) ≡ true → TakesNone facts entries ts vs xs × BringsNone facts entries ts vs xs c.results
  lent_rows so = (
    takes_none facts entries vs ts xs given (each_weaker _ _ (λ t e. inl (ap ends_owned (lent_role t.role e))) ts lent),
    none_brought (λ o. not_owned (map value_in i.operands) lend (sym (ap (λ r. kind_by_row r (kind_together d f i)) (lent_is (result_kind_of i.op) parts.1)) ∙ o)),
  )
    where
      parts : (all_roles is_lent_role (roles_of i.op) ≡ true) × (is_lent (result_kind_of i.op) ≡ true)
      parts = and_parts (all_roles is_lent_role (roles_of i.op)) (is_lent (result_kind_of i.op)) so

      lent : Each (λ (t : Taken). is_lent_role t.role ≡ true) ts
      lent = roles is_lent_role refl parts.0

      both : (us : List Taken) → Each (λ (t : Taken). is_lent_role t.role ≡ true) us → Each (λ (t : Taken). SuitsRole d f t.role t.value) us → Each (λ v. MayLend d f v) (map taken_value us)
      both [] a b = tt
      both (u ∷ us) a b = (subst (λ r. SuitsRole d f r u.value) (lent_role u.role a.0) b.0, both us a.1 b.1)

      lend : Each (λ v. MayLend d f v) (map value_in i.operands)
      lend = subst (Each (λ v. MayLend d f v)) inst.takes (both ts lent suited_each)

      none_owned : (k : Kind) → (k ≡ kind.Guaranteed) ⊎ (k ≡ kind.Plain) → chains.is_owned k ≡ false
      none_owned kind.Owned (inl e) = cc
      none_owned kind.Owned (inr e) = cc
      none_owned kind.Guaranteed h = refl
      none_owned kind.Plain h = refl

      none_among : (us : List ValueId) → Each (λ v. MayLend d f v) us → list_any (λ u. chains.is_owned (facts_at d f u).kind) us ≡ false
      none_among [] h = refl
      none_among (u ∷ us) h = ap (λ b. b || list_any (λ u. chains.is_owned (facts_at d f u).kind) us) (none_owned (facts_at d f u).kind h.0) ∙ none_among us h.1

      not_owned : (us : List ValueId) → Each (λ v. MayLend d f v) us → forwarded (facts_at d f) us ≡ kind.Owned → ⊥
      not_owned us h e =
          at (list_any (λ u. chains.is_guaranteed (facts_at d f u).kind) us)
          (sym (ap (λ b. cond b kind.Owned (cond (list_any (λ u. chains.is_guaranteed (facts_at d f u).kind) us) kind.Guaranteed kind.Plain)) (none_among us h)) ∙ e)
        where
          at : (b : Bool) → cond b kind.Guaranteed kind.Plain ≡ kind.Owned → ⊥
          at true e = cc
          at false e = cc
