-- After a run that ends in a list, the sheet shows the rows of the last reply; so what is written is the text's answer.
use Rattle.std.proofs.Common.{◌≡◌, ℕ, zero, suc, ◌-◌, List, [], ◌∷◌, ◌++◌, length, get_or, drop, Some, None, Ok, Err, Result, IfOk, OnErr, string_bytes, String, inr, sym, refl, ap, ◌∙◌, subst, arith}
use Rattle.std.proofs.lemmas.List.{get_or_push, length_push, take_at}
use Rattle.network.specs.declared.layout.Layout.{Ghosts as LayoutGhosts}
use Rattle.request.specs.Lines.{read_text}
use Rattle.request.specs.declared.reader.Entry.{Entry}
use Rattle.reckoning.specs.declared.call.Call.{Call}
use Rattle.reckoning.specs.declared.call.Call.TheVariants.{List as Rows}
use Rattle.reckoning.specs.declared.session.Session.{Session}
use Rattle.reckoning.specs.Calls.{Answer, refused, listed, Reply, judged, replies}
use Rattle.reckoning.specs.Parts.{Parts}
use Rattle.reckoning.specs.Questions.{Room, verdict, list_questions}
use Rattle.sheet.specs.Sheets.{Page, rewritten}
use Rattle.reckoning.specs.Runs.{Moment, room_in, reply_in, Answered, Run}
use Rattle.reckoning.specs.Sheets.{rows_of}
use Rattle.reckoning.proofs.Serving.{run_last}
use Rattle.book.specs.Books.{parts_in}
use Rattle.controller.specs.declared.controller.Controller.{Controller}
use Rattle.controller.specs.Service.{Served}
use Rattle.text.specs.Asked.{asked, calls_of}
use Rattle.text.specs.Lists.{rows_written, last_rows, is_listed, ends_listed, rows_shown}
use Rattle.text.specs.Served.{output_bytes, ServedText, NothingOrAll}

-- ---- the last reply

last_behind : (L : Parts) (room : Room) (ss : List Session) (walk : List ℕ) (y : Reply) (calls : List Call) (c : Call) → last_rows (y ∷ replies L room ss walk (calls ++ (c ∷ []))) ≡ last_rows (replies L room ss walk (calls ++ (c ∷ [])))
last_behind L room ss walk y [] c = refl
last_behind L room ss walk y (d ∷ calls) c = refl

last_reply : (L : Parts) (calls : List Call) (answers : List Answer) (m m' : Moment) → Run (Answered L) calls answers m m' →
    last_rows (replies L (room_in m) m.standing m.walk (calls ++ (Rows ∷ []))) ≡ rows_written (reply_in L m' Rows).rows
last_reply L [] [] m m' e = ap (λ (x : Moment). rows_written (reply_in L x Rows).rows) e
last_reply L [] (a ∷ rest) m m' e = absurd e
last_reply L (c ∷ cs) [] m m' e = absurd e
last_reply L (c ∷ cs) (a ∷ rest) m m' (u, x, run) =
    let y : Reply = reply_in L m c in
    last_behind L (room_in m) y.after y.walk y cs Rows ∙ rw (sym x.walk) (rw (sym x.standing) (rw (sym x.room) (last_reply L cs rest u m' run)))

-- ---- what the sheet shows

-- a list by its verdict: accepted, the sheet is written from its start; refused, nothing is shown
shown_by : (ss xs : List Session) (walk : List ℕ) (n v : ℕ) (p : Page Session) →
    let y = judged ss walk v (record { answer = listed n; orders = None; rows = Some xs; walk = walk; after = ss }) in
    (answers : List Answer) → ends_listed answers ≡ is_listed y.answer → rows_shown answers (rewritten y.rows p) ≡ rows_written y.rows
shown_by ss xs walk n zero p answers e = rw e (take_at xs (drop (length xs) p.places) (length xs) refl)
shown_by ss xs walk n (suc k) p answers e = rw e

ends_so : (before : List Answer) (a : Answer) → ends_listed (before ++ (a ∷ [])) ≡ is_listed a
ends_so before a =
    let at : length (before ++ (a ∷ [])) - 1 ≡ length before = omega (arith, length_push before a) in
    ap is_listed (ap (λ (n : ℕ). get_or (before ++ (a ∷ [])) n (refused 0)) at ∙ get_or_push before a (refused 0) (length before) refl)

pub rows_shown_lem : (L : Parts) (calls : List Call) (answers : List Answer) (m m'' : Moment) → Run (Answered L) (calls ++ (Rows ∷ [])) answers m m'' →
    rows_shown answers m''.rows ≡ last_rows (replies L (room_in m) m.standing m.walk (calls ++ (Rows ∷ [])))
rows_shown_lem L calls answers m m'' run =
    let r = run_last (Answered L) calls Rows answers m m'' run in
    let m' = r.0 in
    let x = r.4 in
    let ends : ends_listed answers ≡ is_listed (reply_in L m' Rows).answer = ap ends_listed r.5 ∙ ends_so r.1 r.2 ∙ ap is_listed x.answer in
    ap (rows_shown answers) x.rows
    ∙ shown_by m'.standing (rows_of L m'.standing) m'.walk (length m'.standing) (verdict (list_questions L (room_in m') m'.standing)) m'.rows answers ends
    ∙ sym (last_reply L calls r.1 m m' r.3)

-- ---- the whole text

pub text_served : {N P : Type 0} (E : LayoutGhosts N) (c : Controller N P) (text : List ℕ) (es : List Entry) (calls : List Call) (answers : List Answer) (m m' : Moment) (output : List ℕ) →
    es ≡ read_text text → calls ≡ calls_of es → Served E c calls answers m m' → output ≡ output_bytes es answers (rows_shown answers m'.rows) → ServedText E c text output m m'
text_served E c text es calls answers m m' output r k s o =
    let all : calls ≡ calls_of (read_text text) = k ∙ ap calls_of r in
    let told = subst (λ (cs : List Call). Served E c cs answers m m') all s in
    let L = parts_in c.book in
    let ys : List Reply = replies L (room_in m) m.standing m.walk (calls_of (read_text text)) in
    record {
      bytes =
          o ∙ rw r (rw (rows_shown_lem L (asked (read_text text)) answers m m' told.answered) (rw told.replied.0 refl));
      served = (answers, told);
    }

-- what was written is just that
pub all_written : {N P A Y : Type 0} (E : LayoutGhosts N) (c : Controller N P) (text : List ℕ) (es : List Entry) (calls : List Call) (answers : List Answer) (m m' : Moment) (r : Result (String A) Y) →
    es ≡ read_text text → calls ≡ calls_of es → Served E c calls answers m m' → IfOk r (λ s. string_bytes s ≡ output_bytes es answers (rows_shown answers m'.rows)) → IfOk r (λ s. ServedText E c text (string_bytes s) m m')
all_written E c text es calls answers m m' (Ok s) r k served o = text_served E c text es calls answers m m' (string_bytes s) r k served o
all_written E c text es calls answers m m' (Err e) r k served o = tt

-- where all of the text's calls were served, that is so whether or not what they answered was written
pub all_served_then : {N P X Y : Type 0} (E : LayoutGhosts N) (c : Controller N P) (text : List ℕ) (es : List Entry) (calls : List Call) (answers : List Answer) (m m' : Moment) (r : Result X Y) →
    es ≡ read_text text → calls ≡ calls_of es → Served E c calls answers m m' → OnErr r (NothingOrAll E c text m m')
all_served_then E c text es calls answers m m' (Ok x) r k s = tt
all_served_then E c text es calls answers m m' (Err e) r k s = inr (answers, subst (λ (cs : List Call). Served E c cs answers m m') (k ∙ ap calls_of r) s)
