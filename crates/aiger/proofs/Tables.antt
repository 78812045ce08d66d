-- What the sections leave in the reader's tables.
use Rattle.std.proofs.Common.{◌≡◌, ℕ, suc, ◌+◌, ◌-◌, ◌<◌, ◌≤◌, List, [], ◌∷◌, ◌++◌, map, length, take, drop, set, replicate, sym, refl, ap, ◌∙◌, append_assoc, add-zero, arith}
use Rattle.std.proofs.lemmas.List.{length-set, take-append-drop, take_more_set, drop-set-lt, drop-replicate, length-replicate}
use Rattle.literal.specs.declared.Literal.{Literal}
use Rattle.circuit.specs.declared.record.Gate.{Gate}
use Rattle.circuit.specs.declared.record.Latch.{Latch}
use Rattle.aiger.specs.Advance.{State, with_inputs, with_latches, event_input}
use Rattle.aiger.proofs.Sections.{puts}
use Rattle.aiger.proofs.Counted.{put_i, put_l, put_g}

-- a table with some elements set, one after the other, from place p on
abbrev pub set_all : {X : Type 0} → List X → ℕ → List X → List X
set_all t p [] = t
set_all t p (x ∷ xs) = set_all (set t p x) (p + 1) xs

pub set_all_lem : {X : Type 0} (xs t : List X) (p : ℕ) → p + length xs ≤ length t → set_all t p xs ≡ take p t ++ (xs ++ drop (p + length xs) t)
set_all_lem [] t p h = sym (take-append-drop p t) ∙ ap (λ n. take p t ++ drop n t) (sym (add-zero p))
set_all_lem (x ∷ xs) t p h =
    let inside : p < length t = omega arith in
    let n : p + 1 + length xs ≡ p + suc (length xs) = omega arith in
    let far : p < p + 1 + length xs = omega arith in
    set_all_lem xs (set t p x) (p + 1) (rw length-set (omega arith))
    ∙ ap (λ f. f ++ (xs ++ drop (p + 1 + length xs) (set t p x))) (take_more_set t p x inside)
    ∙ append_assoc (take p t) (x ∷ []) (xs ++ drop (p + 1 + length xs) (set t p x))
    ∙ ap (λ d. take p t ++ (x ∷ (xs ++ d))) (drop-set-lt (p + 1 + length xs) t p x far)
    ∙ ap (λ k. take p t ++ (x ∷ (xs ++ drop k t))) n

pub set_blank : {X : Type 0} (xs : List X) (n : ℕ) (b : X) → length xs ≤ n → set_all (replicate n b) 0 xs ≡ xs ++ replicate (n - length xs) b
set_blank xs n b h =
    let z : 0 + length xs ≡ length xs = omega arith in
    set_all_lem xs (replicate n b) 0 (rw length-replicate (omega arith))
    ∙ ap (λ k. xs ++ drop k (replicate n b)) z ∙ ap (λ d. xs ++ d) (drop-replicate (length xs) n b)

pub record AfterInputs (ls : List Literal) (st t : State) : Type 0 where
  pub section : t.reader.section ≡ st.reader.section
  pub place : t.reader.place ≡ st.reader.place + length ls
  pub model : t.reader.model ≡ with_inputs (set_all st.reader.model.inputs st.reader.place (map event_input ls)) st.reader.model
  pub names : t.reader.names ≡ st.reader.names
  pub gates : t.gates ≡ st.gates

pub after_inputs : (ls : List Literal) (st : State) → AfterInputs ls st (puts put_i ls st)
after_inputs [] st = record { section = refl; place = sym (add-zero st.reader.place); model = refl; names = refl; gates = refl }
after_inputs (l ∷ ls) st =
    let a = after_inputs ls (put_i l st) in
    let n : st.reader.place + 1 + length ls ≡ st.reader.place + suc (length ls) = omega arith in
    record { section = a.section; place = a.place ∙ n; model = a.model; names = a.names; gates = a.gates }

pub record AfterLatches (ls : List Latch) (st t : State) : Type 0 where
  pub section : t.reader.section ≡ st.reader.section
  pub place : t.reader.place ≡ st.reader.place + length ls
  pub model : t.reader.model ≡ with_latches (set_all st.reader.model.latches st.reader.place ls) st.reader.model
  pub names : t.reader.names ≡ st.reader.names
  pub gates : t.gates ≡ st.gates

pub after_latches : (ls : List Latch) (st : State) → AfterLatches ls st (puts put_l ls st)
after_latches [] st = record { section = refl; place = sym (add-zero st.reader.place); model = refl; names = refl; gates = refl }
after_latches (l ∷ ls) st =
    let a = after_latches ls (put_l l st) in
    let n : st.reader.place + 1 + length ls ≡ st.reader.place + suc (length ls) = omega arith in
    record { section = a.section; place = a.place ∙ n; model = a.model; names = a.names; gates = a.gates }

pub record AfterGates (gs : List Gate) (st t : State) : Type 0 where
  pub section : t.reader.section ≡ st.reader.section
  pub place : t.reader.place ≡ st.reader.place + length gs
  pub model : t.reader.model ≡ st.reader.model
  pub names : t.reader.names ≡ st.reader.names
  pub gates : t.gates ≡ set_all st.gates st.reader.place gs

pub after_gates : (gs : List Gate) (st : State) → AfterGates gs st (puts put_g gs st)
after_gates [] st = record { section = refl; place = sym (add-zero st.reader.place); model = refl; names = refl; gates = refl }
after_gates (g ∷ gs) st =
    let a = after_gates gs (put_g g st) in
    let n : st.reader.place + 1 + length gs ≡ st.reader.place + suc (length gs) = omega arith in
    record { section = a.section; place = a.place ∙ n; model = a.model; names = a.names; gates = a.gates }
