-- Trying without an assumption: the call below passes its checks, and either answer says what becomes of the marks.
use Rattle.std.proofs.Common.{◌≡◌, ℕ, ◌+◌, ◌-◌, ◌<◌, ◌≤◌, min, true, ◌≢◌, List, ◌++◌, length, get_or, drop, set, replicate, Some, None, Option, Ok, sym, ap, ◌∙◌, subst, inl, inr, arith}
use Rattle.std.proofs.lemmas.List.{get_or-set_other, drop-set-lt, drop-drop}
use Rattle.std.proofs.lemmas.Bool.{cases_eq, cases_lt}
use Rattle.literal.specs.declared.Literal.{Literal}
use Rattle.literal.specs.Truth.{Values}
use Rattle.sat.specs.declared.fault.SolverFault.{SolverFault}
use Rattle.sat.specs.declared.answer.Answer.{Answer}
use Rattle.sat.specs.declared.answer.Answer.TheVariants.{No}
use Rattle.sat.specs.Answers.{Solved, Refuted, Decided}
use Rattle.sat.specs.Clauses.{Clause, Unsatisfiable, all_true, marked, byte_values}
use Rattle.sat.specs.Faults.{in_range, decide_fault, narrow_fault}
use Rattle.sat.proofs.Checks.{decide_passes, narrow_none, DecidePasses}
use Rattle.sat.proofs.Decisions.{decided_no}
use Rattle.sat.proofs.Laws.{range_marked, marked_length, none_more_marks}
use Rattle.sat.proofs.Narrowing.{NarrowedBelow, narrowed_kept, narrowed_dropped, unmarked, unmarked_fewer, set_back, front_at, front_past, front_rest, front_length}
use Rattle.narrowing.specs.Drops.{Tried}

pub never : {Y : Type 0} (o : Option SolverFault) (e : SolverFault) → Some e ≡ o → o ≡ None → Y
never o e p q = let z : ◌≡◌ {A = ℕ} 0 1 = cc in absurd (omega arith)

-- the marked assumptions pass the checks below
pub picked_passes : (V values again : ℕ) (assumed picked : List Literal) (ms : List ℕ) → in_range V assumed ≡ true → length assumed ≤ 64
    → picked ≡ marked assumed ms → V < values → 64 ≤ again → decide_fault V picked values again ≡ None
picked_passes V values again assumed picked ms r h e v a =
    decide_passes V picked values again (record {
      ranged = ap (in_range V) e ∙ range_marked V assumed ms r;
      short = omega (arith, ap length e, marked_length assumed ms);
      values_fit = v;
      marks_fit = omega (arith, ap length e, marked_length assumed ms);
    })

pub tried_yes : (V : ℕ) (cs : List Clause) (assumed picked : List Literal) (first i : ℕ) (vs vs' ms ns : List ℕ) → Solved V cs picked vs vs'
    → picked ≡ marked assumed (set ms i 0) → get_or ms i 0 ≡ 1 → ns ≡ set (set ms i 0) i 1 → Tried cs assumed first i ms ns
tried_yes V cs assumed picked first i vs vs' ms ns s e m n =
    inl (n ∙ set_back ms i m, (byte_values vs', s.clauses, subst (λ (x : List Literal). all_true (byte_values vs') x ≡ true) e s.assumptions))

unmarked_le : (ms : List ℕ) (i k : ℕ) → get_or (set ms i 0) k 0 ≤ get_or ms k 0
unmarked_le ms i k = elim (cases_eq k i) [
  | inl q ↦ omega (arith, unmarked ms i, ap (λ x. get_or (set ms i 0) x 0) q)
  | inr d ↦ omega (arith, get_or-set_other ms i k 0 0 d)
]

pub tried_no : (cs : List Clause) (assumed picked : List Literal) (first i : ℕ) (blank again ms ns : List ℕ) → Refuted cs picked blank again
    → picked ≡ marked assumed (set ms i 0) → i < length assumed → first ≤ i
    → ((k : ℕ) → get_or ns k 0 ≤ get_or (set ms i 0) k 0) → ((k : ℕ) → get_or ns k 0 ≡ 1 → get_or (set ms i 0) k 0 ≡ 1)
    → ((k : ℕ) → k < first → get_or ns k 0 ≡ get_or (set ms i 0) k 0)
    → ((v : Values) → all_true v (marked assumed ns) ≡ true → all_true v (marked (marked assumed (set ms i 0)) again) ≡ true)
    → drop (length assumed) ns ≡ drop (length assumed) (set ms i 0) → Tried cs assumed first i ms ns
tried_no cs assumed picked first i blank again ms ns r e h f b w s a d =
    inr (record {
      bound = λ k. omega (arith, b k, unmarked_le ms i k);
      fewer = λ k q. unmarked_fewer ms i k (w k q);
      firsts = λ k l. (let o : k ≢ i = omega arith in s k l ∙ get_or-set_other ms i k 0 0 o);
      gone = λ q. omega (arith, unmarked ms i, w i q);
      none = λ v t q. r.none v t (subst (λ (x : List Literal). all_true v (marked x again) ≡ true) (sym e) (a v q));
      rest = d ∙ drop-set-lt (length assumed) ms i 0 h;
    })

-- the loop over the assumptions goes on
pub tried_more : (cs : List Clause) (assumed : List Literal) (first i : ℕ) (before ms ns : List ℕ) → NarrowedBelow cs assumed first i before ms
    → i < length assumed → Tried cs assumed first i ms ns → NarrowedBelow cs assumed first (i + 1) before ns
tried_more cs assumed first i before ms ns s h (inl p) =
    subst (λ (x : List ℕ). NarrowedBelow cs assumed first (i + 1) before x) (sym p.0) (narrowed_kept cs assumed first i before ms s p.1)
tried_more cs assumed first i before ms ns s h (inr d) =
    narrowed_dropped cs assumed first i before ms s ns h
    (record {
      bits = λ k l. omega (arith, d.bound k, s.refuted.bits k l);
      none = d.none;
      rest = d.rest ∙ s.refuted.rest;
    })
    (λ k l. d.firsts k l ∙ s.firsts k l)
    (λ k l q. d.fewer k q)
    d.gone

-- a no below to a question that the check let through
pub record AskedNo (V : ℕ) (cs : List Clause) (assumed : List Literal) (first : ℕ) (vs ms vs' ms' : List ℕ) : Type 0 where
  pub refused : None ≡ narrow_fault V assumed first (length vs) (length ms)
  pub passes : DecidePasses V assumed (length vs) (length ms)
  pub few : first ≤ length assumed
  pub refuted : Refuted cs assumed ms ms'
  pub same : vs' ≡ vs

pub asked_no : (V W : ℕ) (cs : List Clause) (assumed : List Literal) (first : ℕ) (vs ms vs' ms' : List ℕ) (a : Answer) → W ≡ V
    → None ≡ narrow_fault W assumed first (length vs) (length ms) → Decided V cs assumed vs ms vs' ms' (Ok a) → a ≡ No → AskedNo V cs assumed first vs ms vs' ms'
asked_no V W cs assumed first vs ms vs' ms' a v r d n =
    let e = r ∙ ap (λ x. narrow_fault x assumed first (length vs) (length ms)) v in
    let p = narrow_none V assumed first (length vs) (length ms) (sym e) in
    let q = decided_no V cs assumed vs ms vs' ms' a d n in
    record { refused = e; passes = p.0; few = p.1; refuted = q.0; same = q.1 }

-- its marks, with the first ones marked besides
pub record Begun (cs : List Clause) (assumed : List Literal) (first : ℕ) (before ms ns : List ℕ) : Type 0 where
  pub firsts : (k : ℕ) → k < first → get_or ns k 0 ≡ 1
  pub bits : (k : ℕ) → k < length assumed → get_or ns k 0 ≤ 1
  pub none : Unsatisfiable cs (marked assumed ns)
  pub long : length ns ≡ length ms
  pub rest : drop (length assumed) ns ≡ drop (length assumed) before

pub begun : (cs : List Clause) (assumed : List Literal) (first : ℕ) (before ms ns : List ℕ) → Refuted cs assumed before ms → first ≤ length assumed
    → length assumed ≤ length ms → ns ≡ replicate (min first (length ms)) 1 ++ drop first ms → Begun cs assumed first before ms ns
begun cs assumed first before ms ns refuted few room is =
    let ones : (k : ℕ) → k < first → get_or ns k 0 ≡ 1 = front_at first 1 ms ns (omega arith) is in
    let later : (k : ℕ) → first ≤ k → get_or ns k 0 ≡ get_or ms k 0 = front_past first 1 ms ns (omega arith) is in
    let n : first + (length assumed - first) ≡ length assumed = omega arith in
    let m = length assumed - first in
    record {
      firsts = ones;
      bits = λ k h. elim (cases_lt k first) [ inl l ↦ omega (arith, ones k l) | inr l ↦ omega (arith, later k l, refuted.bits k h) ];
      none = none_more_marks cs assumed ms ns (λ k h e. elim (cases_lt k first) [ inl l ↦ ones k l | inr l ↦ later k l ∙ e ]) refuted.none;
      long = front_length first 1 ms ns (omega arith) is;
      rest = ap (λ k. drop k ns) (sym n) ∙ sym (drop-drop m first ns) ∙ ap (λ x. drop m x) (front_rest first 1 ms ns (omega arith) is)
          ∙ drop-drop m first ms ∙ ap (λ k. drop k ms) n ∙ refuted.rest;
    }
