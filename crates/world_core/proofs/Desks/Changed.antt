-- Lists of desks of which one changes, and then another.
use Rattle.std.proofs.Common.{◌≡◌, ℕ, ◌<◌, List, [], ◌∷◌, ◌++◌, length, drop, get_or, set, sym, ap, ◌∙◌}
use Rattle.std.proofs.lemmas.List.{get_or-map}
use Rattle.msg_codec.specs.declared.letter.Letter.{Letter}
use Rattle.world_core.specs.declared.entry.Entry.{Entry}
use Rattle.world_core.specs.declared.entry.Entry.TheVariants.{Put, Took}
use Rattle.world_core.specs.Desk.{Desk, PutBetween, SameDesks, TookAt, inbox_at, inboxes_of, logs_of}
use Rattle.list_facts.proofs.Fields.{field_kept, field_set}

-- one desk keeps its log and its inbox
pub same_desks : (ds : List Desk) (i : ℕ) (x d : Desk) → i < length ds → d.log ≡ (get_or ds i x).log → d.inbox ≡ (get_or ds i x).inbox → SameDesks ds (set ds i d)
same_desks ds i x d within log inbox = record {
  logs = field_kept (λ desk. desk.log) ds i x d within log;
  inboxes = field_kept (λ desk. desk.inbox) ds i x d within inbox;
}

pub same_twice : (a b c : List Desk) → SameDesks a b → SameDesks b c → SameDesks a c
same_twice a b c f s = record { logs = s.logs ∙ f.logs; inboxes = s.inboxes ∙ f.inboxes }

-- the inbox of a desk
pub inbox_read : (ds : List Desk) (i : ℕ) (x : Desk) → i < length ds → (get_or ds i x).inbox ≡ inbox_at ds i
inbox_read ds i x within = sym (get_or-map (λ desk. desk.inbox) ds i x [] within)

-- a batch goes into an inbox
pub received : (ds : List Desk) (from to : ℕ) (copied : List Letter) (x d : Desk) → to < length ds → d.log ≡ (get_or ds to x).log →
    d.inbox ≡ set (get_or ds to x).inbox from (get_or (get_or ds to x).inbox from [] ++ copied ∷ []) →
    (logs_of (set ds to d) ≡ logs_of ds) × (inboxes_of (set ds to d) ≡ set (inboxes_of ds) to (set (inbox_at ds to) from (get_or (inbox_at ds to) from [] ++ copied ∷ [])))
received ds from to copied x d within log inbox = (
  field_kept (λ desk. desk.log) ds to x d within log,
  field_set (λ desk. desk.inbox) ds to x d [] (λ waits. set waits from (get_or waits from [] ++ copied ∷ [])) within inbox,
)

-- a put is appended to a log
pub noted : (ds : List Desk) (from to : ℕ) (letters : List Letter) (x d : Desk) → from < length ds → d.log ≡ (get_or ds from x).log ++ Put to letters ∷ [] →
    d.inbox ≡ (get_or ds from x).inbox →
    (logs_of (set ds from d) ≡ set (logs_of ds) from (get_or (logs_of ds) from [] ++ Put to letters ∷ [])) × (inboxes_of (set ds from d) ≡ inboxes_of ds)
noted ds from to letters x d within log inbox = (
  field_set (λ desk. desk.log) ds from x d [] (λ log. log ++ Put to letters ∷ []) within log,
  field_kept (λ desk. desk.inbox) ds from x d within inbox,
)

module _ (from to : ℕ) (letters : List Letter) where
  abbrev with_put : List (List Entry) → List (List Entry)
  with_put logs = set logs from (get_or logs from [] ++ Put to letters ∷ [])

  abbrev with_batch : List (List (List (List Letter))) → List (List (List (List Letter)))
  with_batch inboxes = set inboxes to (set (get_or inboxes to []) from (get_or (get_or inboxes to []) from [] ++ letters ∷ []))

  -- memory is reserved, a batch goes into an inbox, and its put is appended
  pub put_between : (a b c d : List Desk) → SameDesks a b → (logs_of c ≡ logs_of b) × (inboxes_of c ≡ with_batch (inboxes_of b)) →
      (logs_of d ≡ with_put (logs_of c)) × (inboxes_of d ≡ inboxes_of c) → PutBetween from to letters a d
  put_between a b c d made waits noted = record {
    logs = noted.0 ∙ ap with_put (waits.0 ∙ made.logs);
    inboxes = noted.1 ∙ waits.1 ∙ ap with_batch made.inboxes;
  }

-- a batch that is taken
pub took_at : (ds : List Desk) (at from : ℕ) (x d : Desk) → at < length ds →
    d.log ≡ (get_or ds at x).log ++ Took from (get_or (get_or (get_or ds at x).inbox from []) 0 []) ∷ [] →
    d.inbox ≡ set (get_or ds at x).inbox from (drop 1 (get_or (get_or ds at x).inbox from [])) → TookAt at from ds (set ds at d)
took_at ds at from x d within log inbox = record {
  logs = field_set (λ desk. desk.log) ds at x d [] (λ log. log ++ Took from (get_or (get_or (get_or ds at x).inbox from []) 0 []) ∷ []) within log
      ∙ ap (λ waits. set (logs_of ds) at (get_or (logs_of ds) at [] ++ Took from (get_or (get_or waits from []) 0 []) ∷ [])) (inbox_read ds at x within);
  inboxes = field_set (λ desk. desk.inbox) ds at x d [] (λ waits. set waits from (drop 1 (get_or waits from []))) within inbox;
}
