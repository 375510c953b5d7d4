use Rattle.relay_session.proofs.running.all_done.Goals as goal

pub returns-in-Ok : goal.returns-in-Ok
returns-in-Ok g c = record { done = record { acts_by = c.in-Ok.ensures.acts; stays = λ all. c.in-Ok.ensures.queue; fine = λ bad. cc; keeps = c.in-Ok.ensures.keeps } }

pub returns-in-Err-Wire : goal.returns-in-Err-Wire
returns-in-Err-Wire g c = record {
  done = record {
    acts_by = rw c.in-Err-Wire.field-0-is at c.in-Err-Wire.ensures.acts;
    stays = λ all. absurd cc;
    fine = λ bad. cc;
    keeps = rw c.in-Err-Wire.field-0-is at c.in-Err-Wire.ensures.keeps;
  };
}

pub returns-in-Err-Keeper : goal.returns-in-Err-Keeper
returns-in-Err-Keeper g c = record {
  done = record {
    acts_by = rw c.in-Err-Keeper.field-0-is at c.in-Err-Keeper.ensures.acts;
    stays = λ all. absurd cc;
    fine = λ bad. cc;
    keeps = rw c.in-Err-Keeper.field-0-is at c.in-Err-Keeper.ensures.keeps;
  };
}

pub returns-in-Err-Memory : goal.returns-in-Err-Memory
returns-in-Err-Memory g c = record {
  done = record {
    acts_by = rw c.in-Err-Memory.field-0-is at c.in-Err-Memory.ensures.acts;
    stays = λ all. absurd cc;
    fine = λ bad. cc;
    keeps = rw c.in-Err-Memory.field-0-is at c.in-Err-Memory.ensures.keeps;
  };
}
