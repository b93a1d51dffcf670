-- The first of marked entries, and the first of causal chains.
use Rattle.is_stun.specs.declared.header.Class.TheVariants as class
use Rattle.is_rules.specs.declared.emitted.Issued as emitted
use Rattle.is.specs.declared.traces.Mark.{Mark}
use Rattle.is.specs.declared.traces.Mark.TheVariants.{Taken, Issued, Cleared}
use Rattle.is.proofs.Common.{◌+◌, ◌<◌, ◌↔◌, ◌∙◌, ◌≡◌, ◌≤◌, ◌⊎◌, ap, arith, Bool, Class, false, HasAnswer, inl, inr, IsAt, IsFirst}
use Rattle.is.proofs.Common.{IsFirstFrom, IsFirstTrace, IsMarked, Issues, IsTrace, IsTraceOf, IsTrue, List, None, NoneMarked}
use Rattle.is.proofs.Common.{Option, option_map_or, other, Path, refl, SelectsPathAt, Side, slice_get, Some, subst, suc}
use Rattle.is.proofs.Common.{sym, Trace, TransId, true, WorldEntry, zero, ℕ}

compared : (m n : ℕ) → (m < n) ⊎ ((m ≡ n) ⊎ (n < m))
compared zero zero = inr (inl refl)
compared zero (suc n) = inl (omega arith)
compared (suc m) zero = inr (inr (omega arith))
compared (suc m) (suc n) = elim (compared m n) [
  | inl less ↦ inl (omega (arith, less))
  | inr rest ↦ elim rest [ inl same ↦ inr (inl (ap suc same)) | inr more ↦ inr (inr (omega (arith, more))) ]
]

-- ---- what an entry issued

class_or : Class → Option emitted.Issued → Class
class_or c o = option_map_or (λ (i : emitted.Issued). i.class) o c

id_or : TransId → Option emitted.Issued → TransId
id_or id o = option_map_or (λ (i : emitted.Issued). i.id) o id

pub issued_iff : (o : Option emitted.Issued) (i : emitted.Issued) (c : Class) (id : TransId) (b : Bool) → o ≡ Some i → (IsTrue b ↔ ((i.class ≡ c) × (i.id ≡ id)))
    → (IsTrue b ↔ ((path : Path) × (o ≡ Some record { path = path; class = c; id = id })))
unfolding class_or id_or
issued_iff o i c id b is iff = (
  λ holds. (
      let k = iff.0 holds in
      (i.path, is ∙ ap (λ x. let y : emitted.Issued = record { path = i.path; class = x; id = i.id } in Some y) k.0 ∙ ap (λ x. let y : emitted.Issued = record { path = i.path; class = c; id = x } in Some y) k.1)),
  λ some. iff.1 (ap (class_or i.class) (sym is ∙ some.1), ap (id_or i.id) (sym is ∙ some.1)),
)

-- ---- marked entries

pub none_more : (es : List WorldEntry) (mark : Mark) (from n : ℕ) (e : WorldEntry) → NoneMarked es mark from n → slice_get es n ≡ Some e → (IsMarked mark e → ⊥) → NoneMarked es mark from (n + 1)
none_more es mark from n e none found unmarked m low high at = elim (compared m n) [
  | inl less ↦ none m low less at
  | inr rest ↦ elim rest [
    | inl same ↦ (
        let here : slice_get es n ≡ Some at.0 = subst (λ k. slice_get es k ≡ Some at.0) same at.1 in
        let same_entry : at.0 ≡ e = cc in
        unmarked (subst (λ x. IsMarked mark x) same_entry at.2))
    | inr more ↦ (let wrong : ⊥ = omega (arith, high, more) in wrong)
  ]
]

-- a marked entry is the first one, or follows it
at_least : (es : List WorldEntry) (mark : Mark) (from first n : ℕ) → NoneMarked es mark from first → from ≤ n → IsAt es n (IsMarked mark) → first ≤ n
at_least es mark from first n none low at = elim (compared n first) [
  | inl less ↦ absurd (none n low less at)
  | inr rest ↦ elim rest [ inl same ↦ omega (arith, same) | inr more ↦ omega (arith, more) ]
]

-- ---- the response to a check

module _ (es : List WorldEntry) (side : Side) (id : TransId) (checked end : ℕ) where
  abbrev Asked : Mark
  Asked = Taken (other side) class.Request id

  abbrev Replied : Mark
  Replied = Issued (other side) class.Success id

  abbrev Came : Mark
  Came = Taken side class.Success id

  pub no_delivery : NoneMarked es Asked (checked + 1) end → (t : Trace) → t.checked ≡ checked → ¬ HasAnswer es side id end t
  no_delivery none t is a =
      let (ab, bc, cd, de) = a.in_order in
      none t.delivered (omega (arith, is, ab)) (omega (arith, bc, cd, de)) a.delivery

  module _ (delivered : ℕ) (first_delivered : NoneMarked es Asked (checked + 1) delivered) where
    no_earlier : (t : Trace) → t.checked ≡ checked → HasAnswer es side id end t → delivered ≤ t.delivered
    no_earlier t is a = (let ab = a.in_order.0 in at_least es Asked (checked + 1) delivered t.delivered first_delivered (omega (arith, is, ab)) a.delivery)

    pub no_reply : NoneMarked es Replied delivered end → (t : Trace) → t.checked ≡ checked → ¬ HasAnswer es side id end t
    no_reply none t is a =
        let (ab, bc, cd, de) = a.in_order in
        let d = no_earlier t is a in
        none t.replied (omega (arith, d, bc)) (omega (arith, cd, de)) a.reply

    module _ (replied : ℕ) (first_replied : NoneMarked es Replied delivered replied) where
      no_earlier_reply : (t : Trace) → t.checked ≡ checked → HasAnswer es side id end t → replied ≤ t.replied
      no_earlier_reply t is a =
          let bc = a.in_order.1 in
          let d = no_earlier t is a in
          at_least es Replied delivered replied t.replied first_replied (omega (arith, d, bc)) a.reply

      pub no_answer : NoneMarked es Came (replied + 1) end → (t : Trace) → t.checked ≡ checked → ¬ HasAnswer es side id end t
      no_answer none t is a =
          let (ab, bc, cd, de) = a.in_order in
          let r = no_earlier_reply t is a in
          none t.answered (omega (arith, r, cd)) de a.answer

      pub first_answer : (answered : ℕ) → checked + 1 ≤ delivered → IsAt es delivered (IsMarked Asked) → delivered ≤ replied → IsAt es replied (IsMarked Replied)
          → replied + 1 ≤ answered → answered < end → IsAt es answered (IsMarked Came) → NoneMarked es Came (replied + 1) answered
          → IsFirstFrom (HasAnswer es side id end) checked (Some (record { checked = checked; delivered = delivered; replied = replied; answered = answered }))
      first_answer answered one delivery two reply three four answer first_answered = (
        refl,
        record { delivery = delivery; reply = reply; answer = answer; in_order = (omega (arith, one), two, omega (arith, three), four) },
        λ t is a. (
            let cd = a.in_order.2 in
            let d = no_earlier t is a in
            let r = no_earlier_reply t is a in
            inr (
              sym is,
              elim (compared delivered t.delivered) [
                | inl less ↦ inl less
                | inr rest ↦ elim rest [
                  | inr more ↦ absurd (let wrong : ⊥ = omega (arith, d, more) in wrong)
                  | inl same ↦ inr (
                    same,
                    elim (compared replied t.replied) [
                      | inl less ↦ inl less
                      | inr others ↦ elim others [
                        | inr more ↦ absurd (let wrong : ⊥ = omega (arith, r, more) in wrong)
                        | inl same_reply ↦ inr (same_reply, at_least es Came (replied + 1) answered t.answered first_answered (omega (arith, r, cd)) a.answer)
                      ]
                    ],
                  )
                ]
              ],
            )),
      )

-- ---- a causal chain

ids_same : (es : List WorldEntry) (n : ℕ) (side : Side) (path : Path) (a b : TransId) → IsAt es n (Issues side path class.Request a) → IsAt es n (Issues side path class.Request b) → a ≡ b
unfolding id_or
ids_same es n side path a b x y =
    let (e, e_found, (e_side, e_issued)) = x in
    let (f, f_found, (f_side, f_issued)) = y in
    let same : e ≡ f = cc in
    ap (id_or a) (sym e_issued ∙ ap (λ (z : WorldEntry). z.issued) same ∙ f_issued)

module _ (es : List WorldEntry) (side : Side) (path : Path) (checked end : ℕ) where
  pub no_check : ((id : TransId) → ¬ IsAt es checked (Issues side path class.Request id)) → (t : Trace) → t.checked ≡ checked → ¬ IsTrace es side path end t
  no_check none t is a = none a.id (subst (λ n. IsAt es n (Issues side path class.Request a.id)) is a.check)

  module _ (id : TransId) (check : IsAt es checked (Issues side path class.Request id)) (none_cleared : NoneMarked es (Cleared side) checked end) where
    kept : (n : ℕ) (e : WorldEntry) → checked ≤ n → n < end → slice_get es n ≡ Some e → e.side ≡ Some side → e.clear ≡ false
    kept n e low high found side_is = elim e.clear as (λ b. e.clear ≡ b → e.clear ≡ false) [
      | true ↦ λ is. absurd (none_cleared n low high (e, found, (side_is, is)))
      | false ↦ λ is. is
    ] refl

    pub trace_by : (result : Option Trace) → IsFirstFrom (HasAnswer es side id end) checked result → IsFirstFrom (IsTrace es side path end) checked result
    trace_by None none = λ t is a.
        none t is (subst (λ i. HasAnswer es side i end t) (ids_same es checked side path a.id id (subst (λ n. IsAt es n (Issues side path class.Request a.id)) is a.check) check) a.answered)
    trace_by (Some first) (is_first, answered, earliest) = (
      is_first,
      record {
        id = id;
        check = subst (λ n. IsAt es n (Issues side path class.Request id)) (sym is_first) check;
        answered = answered;
        uncleared = λ n e low. kept n e (omega (arith, is_first, low));
      },
      λ t is a. earliest t is
          (subst (λ i. HasAnswer es side i end t) (ids_same es checked side path a.id id (subst (λ n. IsAt es n (Issues side path class.Request a.id)) is a.check) check) a.answered),
    )

module _ (es : List WorldEntry) (side : Side) (path : Path) (end : ℕ) where
  pub first_of_all : (n : ℕ) (first : Trace) → ((t : Trace) → t.checked < n → ¬ IsTrace es side path end t) → IsFirstFrom (IsTrace es side path end) n (Some first) → IsFirst (IsTrace es side path end) (Some first)
  first_of_all n first before (is, trace, earliest) = (
    trace,
    λ t a. elim (compared t.checked n) [
      | inl below ↦ absurd (before t below a)
      | inr rest ↦ elim rest [ inl same ↦ earliest t same a | inr more ↦ inl (omega (arith, is, more)) ]
    ],
  )

-- ---- what was selected

path_or : Path → Option (Option Path) → Path
path_or path o = option_map_or (λ i. option_map_or (λ (p : Path). p) i path) o path

side_or : Side → Option Side → Side
side_or side o = option_map_or (λ (s : Side). s) o side

module _ (es : List WorldEntry) (n place : ℕ) where
  pub none_selected : ((side : Side) (path : Path) → ¬ IsAt es n (SelectsPathAt side path place)) → IsFirstTrace es n place None
  none_selected none t (side, path, selected_paths, trace) = none side path selected_paths

  pub first_selected : (side : Side) (path : Path) (end : ℕ) (result : Option Trace) → end ≡ suc n → IsAt es n (SelectsPathAt side path place) → IsFirst (IsTrace es side path end) result
      → IsFirstTrace es n place result
  unfolding path_or side_or
  first_selected side path end result end_is (e, found, (side_is, selected_paths)) first = by result (subst (λ k. IsFirst (IsTrace es side path k) result) end_is first) where
    same_trace : (t : Trace) → IsTraceOf es n place t → IsTrace es side path (suc n) t
    same_trace t (other_side, other_path, (f, f_found, (f_side, f_announced)), trace) =
        let same : f ≡ e = cc in
        let sides : other_side ≡ side = ap (side_or other_side) (sym f_side ∙ ap (λ (z : WorldEntry). z.side) same ∙ side_is) in
        let paths : other_path ≡ path = ap (path_or other_path) (sym f_announced ∙ ap (λ (z : WorldEntry). slice_get z.announced place) same ∙ selected_paths) in
        subst (λ s. IsTrace es s path (suc n) t) sides (subst (λ p. IsTrace es other_side p (suc n) t) paths trace)

    by : (result : Option Trace) → IsFirst (IsTrace es side path (suc n)) result → IsFirstTrace es n place result
    by None none = λ t of. none t (same_trace t of)
    by (Some trace) (is, earliest) = ((side, path, (e, found, (side_is, selected_paths)), is), λ t of. earliest t (same_trace t of))
