use Rattle.count_heap.proofs.layouts_by_class.places.+add_chain.Given as goal

abbrev pub decreases-add_chain : goal.decreases-add_chain
decreases-add_chain l = l.most
