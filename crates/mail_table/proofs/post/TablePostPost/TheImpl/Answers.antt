use Rattle.std.proofs.Common.{Option, Some, None, Result, Ok, Err, List}
use Rattle.std.specs.Option.{IfSome}
use Rattle.std.specs.Result.{OnOk}
use Rattle.msg_codec.specs.declared.letter.Letter.{Letter}
use Rattle.world_core.specs.declared.post.PutBack.{PutBack}
use Rattle.world_core.specs.declared.post.PutBack.TheVariants.{Full, NoMemory}
use Rattle.world_core.specs.Post.{IfFull, IfNoMemory}
use Rattle.mail_table.proofs.post.TablePostPost.TheImpl.Goals as goal

-- each outcome as any post has it

done_as : {A B : Type 0} (result : Result (Unit {0}) PutBack) → (A → B) → OnOk result A → OnOk result B
done_as (Ok done) f h = f h
done_as (Err back) f h = tt

full_as : {A B : Type 0} (result : Result (Unit {0}) PutBack) → (A → B) → IfFull result A → IfFull result B
full_as (Ok done) f h = tt
full_as (Err (Full batch)) f h = f h
full_as (Err (NoMemory batch)) f h = tt

never : (B : Type 0) (result : Result (Unit {0}) PutBack) → IfNoMemory result ⊥ → IfNoMemory result B
never B (Ok done) h = tt
never B (Err (Full batch)) h = tt
never B (Err (NoMemory batch)) h = absurd h

took_as : {A B : List Letter → Type 0} (result : Option (List Letter)) → ((batch : List Letter) → A batch → B batch) → IfSome result A → IfSome result B
took_as None f h = tt
took_as (Some batch) f h = f batch h

pub put-tells : goal.put-tells
put-tells g c = record {
  done = done_as c.result (λ put. put.post) c.ensures.done;
  full = full_as c.result (λ full. full.post) c.ensures.full;
  no_memory = never _ c.result c.ensures.no_memory;
  back = c.ensures.back;
  keeps = c.ensures.keeps;
}

pub take-tells : goal.take-tells
take-tells g c = record { took = took_as c.result (λ batch took. took.post) c.ensures.took; none = λ none. (c.ensures.none none).post; keeps = c.ensures.keeps }

pub stopped-tells : goal.stopped-tells
stopped-tells g c = record { saw = λ yes. (c.ensures.saw yes).post; saw_none = λ no. (c.ensures.saw_none no).post; keeps = c.ensures.keeps }
