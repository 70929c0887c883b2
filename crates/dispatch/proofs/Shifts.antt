-- A shift with one call more. Assumes nothing.
use Rattle.std.proofs.Common.{◌≡◌, ℕ, ◌+◌, ◌<◌, List, [], ◌∷◌, ◌++◌, length, get_or, take, drop, set, sym, refl, ap, ◌∙◌, arith}
use Rattle.std.proofs.lemmas.List.{take_more, take_more_set, drop-set-lt, drop-drop, length-take-le}
use Rattle.schedule.specs.declared.Call.{Call}
use Rattle.schedule.specs.declared.Answer.{Answer}
use Rattle.schedule.specs.State.{State}
use Rattle.schedule.specs.Calls.{answer, after}
use Rattle.schedule.specs.Shift.{shift, after_all}
use Rattle.dispatch.specs.Entries.{entries_of}

entries_more : (cs : List Call) (answers : List Answer) (c : Call) (a : Answer) → length cs ≡ length answers → entries_of (cs ++ c ∷ []) (answers ++ a ∷ []) ≡ entries_of cs answers ++ (c, a) ∷ []
unfolding entries_of
entries_more [] [] c a e = refl
entries_more [] (b ∷ answers) c a e = absurd (omega arith)
entries_more (d ∷ cs) [] c a e = absurd (omega arith)
entries_more (d ∷ cs) (b ∷ answers) c a e = ap (λ es. (d, b) ∷ es) (entries_more cs answers c a (omega arith))

shift_more : (s : State) (cs : List Call) (c : Call) → shift s (cs ++ c ∷ []) ≡ shift s cs ++ (c, answer (after_all s cs) c) ∷ []
unfolding shift after_all
shift_more s [] c = refl
shift_more s (d ∷ cs) c = ap (λ es. (d, answer s d) ∷ es) (shift_more (after s d) cs c)

after_more : (s : State) (cs : List Call) (c : Call) → after_all s (cs ++ c ∷ []) ≡ after (after_all s cs) c
unfolding after_all
after_more s [] c = refl
after_more s (d ∷ cs) c = after_more (after s d) cs c

-- i calls have been carried out: these are their entries and the state behind them, and the places behind are as they were
pub record Carried (s t : State) (calls : List Call) (old answers : List Answer) (i : ℕ) : Type 0 where
  pub entries : entries_of (take i calls) (take i answers) ≡ shift s (take i calls)
  pub state : t ≡ after_all s (take i calls)
  pub behind : drop i answers ≡ drop i old

pub carried_none : (s t : State) (calls : List Call) (old : List Answer) → t ≡ s → Carried s t calls old old 0
unfolding entries_of shift after_all
carried_none s t calls old e = record { entries = refl; state = e; behind = refl }

module _ (s t t' : State) (calls : List Call) (old answers : List Answer) (i : ℕ) (d : Call) (a : Answer) (so : Carried s t calls old answers i) (here : i < length calls) (room : i < length answers) where
  pub carried_more : a ≡ answer t (get_or calls i d) → t' ≡ after t (get_or calls i d) → Carried s t' calls old (set answers i a) (i + 1)
  carried_more is then =
      let c = get_or calls i d in
      let more = take_more calls i d here in
      let same : length (take i calls) ≡ length (take i answers) = length-take-le i calls (omega arith) ∙ sym (length-take-le i answers (omega arith)) in
      let put = take_more_set answers i a room in
      record {
        entries =
            ap (λ cs. entries_of cs (take (i + 1) (set answers i a))) more
            ∙ ap (entries_of (take i calls ++ c ∷ [])) put
            ∙ entries_more (take i calls) (take i answers) c a same
            ∙ ap (λ es. es ++ (c, a) ∷ []) so.entries
            ∙ ap (λ x. shift s (take i calls) ++ (c, x) ∷ []) (is ∙ ap (λ x. answer x c) so.state)
            ∙ sym (shift_more s (take i calls) c)
            ∙ ap (shift s) (sym more);
        state = then ∙ ap (λ x. after x c) so.state ∙ sym (after_more s (take i calls) c) ∙ ap (after_all s) (sym more);
        behind = drop-set-lt (i + 1) answers i a (omega arith) ∙ sym (drop-drop 1 i answers) ∙ ap (drop 1) so.behind ∙ drop-drop 1 i old;
      }
