use Rattle.bgp_load.proofs.loading.found_in.Goals as goal

pub returns : goal.returns
returns c = rw (c.router_named-router.ensures, c.as_slice.ensures, c.routers.ensures.lists) at c.found_at.ensures
