mod Lists
mod Named
mod PlanTelling
